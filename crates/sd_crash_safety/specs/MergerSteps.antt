-- How the steps of a merger keep what a core believes.
use Rattle.std.specs.Prelude.{◌≡◌, ℕ, ◌+◌, ◌<◌, List, length, Option, Some, None, slice_get, slice_set}
use Rattle.sd_chain.specs.Catalog.{Changes, IsTip, Names, Opened, Places, place_of}
use Rattle.sd_chain.specs.Reaches.{ParentsFall, ReachesSerial}
use Rattle.sd_gate.specs.declared.phase.Phase.{Phase}
use Rattle.sd_gate.specs.Phases.{state_of}
use Rattle.sd_gate.specs.Requests.{Asked}
use Rattle.sd_merge.specs.declared.merge_step.MergeStep.{MergeStep}
use Rattle.sd_merge.specs.declared.merge_step.MergeStep.TheVariants.{Call, ReadCall, PageCall, TableCall, Zero}
use Rattle.sd_merge.specs.Copying.{Copying, IsLost, IsSoundCopying, Steps, begun_copy}
use Rattle.sd_merge.specs.Merger.{IsRetiring, RetiresOn, Retiring, begun_merge, copying, due, retiring}
use Rattle.sd_merge.specs.Merger as merger
use Rattle.sd_merge.specs.Sources.{source_from}
use Rattle.sd_rounds.specs.Dumper.{Running, slot_of}
use Rattle.sd_rounds.specs.Making.{Making}
use Rattle.sd_crash_safety.specs.declared.standing.Standing.TheVariants.{Open}
use Rattle.sd_crash_safety.specs.Believes.{Believes}
use Rattle.sd_crash_safety.specs.Calls.{IsFree}
use Rattle.sd_crash_safety.specs.CheckpointSteps.{IsUnreached}
use Rattle.sd_crash_safety.specs.Merges.{IsSpared}
use Rattle.sd_crash_safety.specs.View.{CoreView, history_of}

-- the checkpoint makes its image in the slot that is its next one
abbrev pub MakesItInSlot : Running → Option Making → Type 0
MakesItInSlot running None = Unit {0}
MakesItInSlot running (Some image) = image.order.slot ≡ slot_of running

abbrev pub MakesInItsSlot : Option Running → Type 0
MakesInItsSlot None = Unit {0}
MakesInItsSlot (Some running) = MakesItInSlot running running.image

-- the store is open, no opener runs, and the merger alone goes on
pub record OnlyMerges (old new : CoreView) : Type 0 where
  pub stands : old.standing ≡ Open
  pub base : new.base ≡ old.base
  pub history : history_of new ≡ history_of old
  pub memory : new.memory ≡ old.memory
  pub closed : new.opener ≡ None
  pub grows : new.grows ≡ old.grows
  pub committing : new.committing ≡ old.committing
  pub dumper : new.dumper.running ≡ old.dumper.running
  pub makes : MakesInItsSlot old.dumper.running

-- no image that the running checkpoint's next parent number calls for stands in the slot
abbrev pub IsUncalled : Places → Option Running → ℕ → Type 0
IsUncalled places None slot = Unit {0}
IsUncalled places (Some running) slot =
    (serial : ℕ) (o start : Opened) → place_of places serial ≡ Some (Some o) → o.slot ≡ slot
    → Names places running.parent start → ReachesSerial places start.header.serial serial → ⊥

-- A merge of the tip begins, in a slot that the checkpoint spares, and in which no image stands that is needed.
pub record BeginsMerge (places : Places) (old : CoreView) (tip : Opened) (slot : ℕ) (before : List ℕ)
    (new : CoreView) : Type 0 where
  pub rest : OnlyMerges old new
  pub phases : new.phases ≡ old.phases
  pub outs : new.outs ≡ old.outs
  pub serial : new.numbers.serial ≡ old.numbers.serial
  pub its_catalog : old.catalog ≡ places
  pub catalog : new.catalog ≡ places
  pub was : old.merger ≡ None
  pub is_tip : IsTip places tip
  pub within : slot < length old.phases
  pub spared : IsSpared old.dumper.running slot
  pub unreached : ParentsFall places → IsUnreached places slot
  pub uncalled : ParentsFall places → IsUncalled places old.dumper.running slot
  pub is : new.merger ≡ Some (begun_merge (source_from tip) slot before)

abbrev pub MergeBeginningIsBelieved : Places → Type 0
MergeBeginningIsBelieved places = (old new : CoreView) (tip : Opened) (slot : ℕ) (before : List ℕ)
    (asked : List (Option Asked)) (bodies files : List (List ℕ))
    → BeginsMerge places old tip slot before new → Believes old asked bodies files → Believes new asked bodies files

-- The merged image begins: it gets the serial above all that were given out, whose place in the catalog is held.
pub record BeginsMerged (old : CoreView) (merge : merger.Running) (phase : Phase) (new : CoreView) : Type 0 where
  pub rest : OnlyMerges old new
  pub phases : new.phases ≡ old.phases
  pub outs : new.outs ≡ old.outs
  pub phase_is : slice_get old.phases merge.slot ≡ Some phase
  pub free : IsFree old.outs merge.slot
  pub serial : new.numbers.serial ≡ old.numbers.serial + 1
  pub held : Changes old.catalog new.catalog (old.numbers.serial + 1) (Some None)
  pub was : old.merger ≡ Some merge
  pub due : merge.doing ≡ due
  pub is : new.merger ≡ Some
      (record merge { doing = copying (begun_copy (merger.order_of merge (old.numbers.serial + 1) (state_of phase))) })

-- A step of the merged image.
pub record MergesOn (old : CoreView) (merge : merger.Running) (copy : Copying) (ticket : ℕ) (step : MergeStep)
    (next : Copying) (new : CoreView) : Type 0 where
  pub rest : OnlyMerges old new
  pub phases : new.phases ≡ old.phases
  pub serial : new.numbers.serial ≡ old.numbers.serial
  pub catalog : new.catalog ≡ old.catalog
  pub was : old.merger ≡ Some merge
  pub doing : merge.doing ≡ copying copy
  pub sound : IsSoundCopying copy
  pub steps : Steps ticket old.catalog copy step next
  pub is : new.merger ≡ Some (record merge { doing = copying next })

-- It asks for a device call.
pub record AsksForMerged (old : CoreView) (merge : merger.Running) (copy : Copying) (ticket : ℕ) (step : MergeStep)
    (request : Asked) (next : Copying) (new : CoreView) : Type 0 where
  pub merges : MergesOn old merge copy ticket step next new
  pub free : slice_get old.outs 1 ≡ Some None
  pub apart : IsFree old.outs request.id.slot
  pub outs : new.outs ≡ slice_set old.outs 1 (Some request.id)

-- It takes a page of zeros.
pub record TakesZeros (old : CoreView) (merge : merger.Running) (copy : Copying) (ticket : ℕ) (next : Copying)
    (new : CoreView) : Type 0 where
  pub merges : MergesOn old merge copy ticket Zero next new
  pub outs : new.outs ≡ old.outs

-- The next call on an image of the list is asked for.
pub record AsksToRetire (old : CoreView) (merge : merger.Running) (r next : Retiring) (ticket : ℕ) (request : Asked)
    (new : CoreView) : Type 0 where
  pub rest : OnlyMerges old new
  pub phases : new.phases ≡ old.phases
  pub serial : new.numbers.serial ≡ old.numbers.serial
  pub catalog : new.catalog ≡ old.catalog
  pub was : old.merger ≡ Some merge
  pub doing : merge.doing ≡ retiring r
  pub sound : IsRetiring r
  pub retires : RetiresOn ticket r (Call request) (retiring next)
  pub free : slice_get old.outs 1 ≡ Some None
  pub apart : IsFree old.outs request.id.slot
  pub outs : new.outs ≡ slice_set old.outs 1 (Some request.id)
  pub is : new.merger ≡ Some (record merge { doing = retiring next })

-- A step that asks for such a call.
abbrev pub AskingIsBelieved : Places → (Asked → MergeStep) → Type 0
AskingIsBelieved places step = (old new : CoreView) (merge : merger.Running) (copy next : Copying) (ticket : ℕ)
    (request : Asked) (asked : List (Option Asked)) (bodies files : List (List ℕ))
    → old.catalog ≡ places → AsksForMerged old merge copy ticket (step request) request next new
    → Believes old asked bodies files
    → Believes new (slice_set asked 1 (Some request)) bodies files

pub record MergerSteps (places : Places) : Type 0 where
  pub begins_image : (old new : CoreView) (merge : merger.Running) (phase : Phase) (asked : List (Option Asked))
      (bodies files : List (List ℕ))
      → BeginsMerged old merge phase new → Believes old asked bodies files → Believes new asked bodies files
  -- a read of the source is in a slot of the store that the checkpoint spares
  pub spares : (old new : CoreView) (merge : merger.Running) (copy next : Copying) (ticket : ℕ) (request : Asked)
      (asked : List (Option Asked)) (bodies files : List (List ℕ))
      → old.catalog ≡ places → MergesOn old merge copy ticket (ReadCall request) next new
      → Believes old asked bodies files
      → (request.id.slot < length old.phases) × IsSpared old.dumper.running request.id.slot
  -- the source is there to be read: no page of it is lost
  pub finds : (core : CoreView) (merge : merger.Running) (copy : Copying) (asked : List (Option Asked))
      (bodies files : List (List ℕ))
      → core.catalog ≡ places → core.standing ≡ Open → core.merger ≡ Some merge → merge.doing ≡ copying copy
      → Believes core asked bodies files → IsLost places copy → ⊥
  -- the next call of a plan
  pub asks : AskingIsBelieved places Call
  -- the read of the source's next page, and the write of the page that was read
  pub reads : AskingIsBelieved places ReadCall
  pub writes_page : AskingIsBelieved places PageCall
  -- the first that writes the table
  pub writes_table : AskingIsBelieved places TableCall
  pub takes_zeros : (old new : CoreView) (merge : merger.Running) (copy next : Copying) (ticket : ℕ)
      (asked : List (Option Asked)) (bodies files : List (List ℕ))
      → old.catalog ≡ places → TakesZeros old merge copy ticket next new → Believes old asked bodies files
      → Believes new asked bodies files
  -- a call on an image of the list
  pub retires : (old new : CoreView) (merge : merger.Running) (r next : Retiring) (ticket : ℕ) (request : Asked)
      (asked : List (Option Asked)) (bodies files : List (List ℕ))
      → AsksToRetire old merge r next ticket request new → Believes old asked bodies files
      → Believes new (slice_set asked 1 (Some request)) bodies files

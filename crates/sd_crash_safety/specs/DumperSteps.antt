-- How the steps of a dumper keep what a core believes.
use Rattle.std.specs.Prelude.{◌≡◌, ℕ, ◌+◌, ◌&&◌, ◌||◌, Bool, true, false, List, ◌∷◌, Option, Some, None, slice_get}
use Rattle.std.specs.Prelude.{slice_set}
use Rattle.sd_chain.specs.Catalog.{Changes}
use Rattle.sd_gate.specs.declared.call.Call.{Call as DeviceCall}
use Rattle.sd_gate.specs.declared.call.Call.TheVariants as call
use Rattle.sd_gate.specs.declared.phase.Phase.{Phase}
use Rattle.sd_gate.specs.Phases.{state_of}
use Rattle.sd_gate.specs.Requests.{Asked}
use Rattle.sd_rounds.specs.declared.image_step.ImageStep.{ImageStep}
use Rattle.sd_rounds.specs.declared.image_step.ImageStep.TheVariants.{Call, PageCall, TableCall, Frozen, Visited}
use Rattle.sd_rounds.specs.declared.image_step.ImageStep.TheVariants.{Copied}
use Rattle.sd_journal.specs.declared.entry.Entry.TheVariants.{Freeze}
use Rattle.sd_journal.specs.History.{memory_after}
use Rattle.sd_journal.specs.Legal.{IsLegal}
use Rattle.sd_journal.specs.Marked.{Told}
use Rattle.sd_pagetable.specs.Contents.{plain_of}
use Rattle.sd_rounds.specs.Dumper.{Running, is_last, order_of, slot_of}
use Rattle.sd_rounds.specs.Rises.{IsRising}
use Rattle.sd_rounds.specs.Making.{Making, Steps, begun_image}
use Rattle.sd_crash_safety.specs.declared.standing.Standing.TheVariants.{Open}
use Rattle.sd_crash_safety.specs.Believes.{Believes}
use Rattle.sd_crash_safety.specs.Calls.{IsApart, IsFree}
use Rattle.sd_crash_safety.specs.View.{CoreView, history_of, page_lane}

-- the store is open, and no opener runs
pub record OnlyDumps (old new : CoreView) : Type 0 where
  pub stands : old.standing ≡ Open
  pub base : new.base ≡ old.base
  pub closed : new.opener ≡ None
  pub grows : new.grows ≡ old.grows
  pub merger : new.merger ≡ old.merger

-- The next image begins: it gets the serial above all that were given out, whose place in the catalog is held.
pub record BeginsImage (old : CoreView) (running : Running) (phase : Phase) (new : CoreView) : Type 0 where
  pub rest : OnlyDumps old new
  pub history : history_of new ≡ history_of old
  pub memory : new.memory ≡ old.memory
  pub phases : new.phases ≡ old.phases
  pub outs : new.outs ≡ old.outs
  pub free : IsFree old.outs (slot_of running)
  pub was : old.dumper.running ≡ Some running
  pub none : running.image ≡ None
  pub phase_is : slice_get old.phases (slot_of running) ≡ Some phase
  pub serial : new.numbers.serial ≡ old.numbers.serial + 1
  pub held : Changes old.catalog new.catalog (old.numbers.serial + 1) (Some None)
  pub is : new.dumper.running
      ≡ Some (record running
      { image = Some (begun_image (order_of running (old.numbers.serial + 1) (state_of phase))) })

-- the call writes the gate, which opens the image
abbrev pub opens_gate : DeviceCall → Bool
opens_gate call.Len = false
opens_gate (call.Read at) = false
opens_gate (call.Write at) = false
opens_gate call.WriteHeader = false
opens_gate call.Close = false
opens_gate call.Open = true
opens_gate call.Cut = false
opens_gate call.Sync = false

-- a call of the running checkpoint opens the gate of its dump
abbrev pub commits_dump : Running → DeviceCall → Bool
commits_dump running asked = is_last running && opens_gate asked

-- A step of an image asks for a device call that writes no data page.
pub record AsksFor (old : CoreView) (running : Running) (image : Making) (number : ℕ) (step : ImageStep)
    (request : Asked) (next : Making) (new : CoreView) : Type 0 where
  pub rest : OnlyDumps old new
  pub history : history_of new ≡ history_of old
  pub catalog : new.catalog ≡ old.catalog
  pub memory : new.memory ≡ old.memory
  pub phases : new.phases ≡ old.phases
  pub serial : new.numbers.serial ≡ old.numbers.serial
  pub free : slice_get old.outs 0 ≡ Some None
  pub apart : IsFree old.outs request.id.slot
  pub outs : new.outs ≡ slice_set old.outs 0 (Some request.id)
  pub was : old.dumper.running ≡ Some running
  pub making : running.image ≡ Some image
  pub rising : IsRising image.pass
  pub own : image.order ≡ order_of running image.order.serial image.order.state
  pub steps : Steps number image old.memory step next new.memory
  pub committing : new.committing ≡ (old.committing || commits_dump running request.id.call)
  pub is : new.dumper.running ≡ Some (record running { image = Some next })

-- A step of an image asks for the write of a data page: what is out on its slot writes others.
pub record AsksToWrite (old : CoreView) (running : Running) (image : Making) (number lane : ℕ) (request : Asked)
    (next : Making) (new : CoreView) : Type 0 where
  pub rest : OnlyDumps old new
  pub history : history_of new ≡ history_of old
  pub catalog : new.catalog ≡ old.catalog
  pub memory : new.memory ≡ old.memory
  pub phases : new.phases ≡ old.phases
  pub serial : new.numbers.serial ≡ old.numbers.serial
  pub free : slice_get old.outs (page_lane lane) ≡ Some None
  pub apart : IsApart old.outs request.id
  pub outs : new.outs ≡ slice_set old.outs (page_lane lane) (Some request.id)
  pub was : old.dumper.running ≡ Some running
  pub making : running.image ≡ Some image
  pub rising : IsRising image.pass
  pub own : image.order ≡ order_of running image.order.serial image.order.state
  pub steps : Steps number image old.memory (PageCall lane request) next new.memory
  pub committing : new.committing ≡ old.committing
  pub is : new.dumper.running ≡ Some (record running { image = Some next })

-- A step of an image works on the memory.
pub record WorksOnMemory (old : CoreView) (running : Running) (image : Making) (number : ℕ) (step : ImageStep)
    (next : Making) (new : CoreView) : Type 0 where
  pub rest : OnlyDumps old new
  pub history : history_of new ≡ history_of old
  pub catalog : new.catalog ≡ old.catalog
  pub phases : new.phases ≡ old.phases
  pub serial : new.numbers.serial ≡ old.numbers.serial
  pub outs : new.outs ≡ old.outs
  pub was : old.dumper.running ≡ Some running
  pub making : running.image ≡ Some image
  pub rising : IsRising image.pass
  pub steps : Steps number image old.memory step next new.memory
  pub plain : plain_of new.memory ≡ plain_of old.memory
  pub committing : new.committing ≡ old.committing
  pub is : new.dumper.running ≡ Some (record running { image = Some next })

-- The memory is frozen for the running checkpoint.
pub record FreezesMemory (old : CoreView) (running : Running) (image : Making) (number : ℕ) (next : Making)
    (new : CoreView) : Type 0 where
  pub rest : OnlyDumps old new
  pub items : new.items ≡ Told (Freeze running.number) ∷ old.items
  pub legal : IsLegal old.base (Freeze running.number ∷ history_of old)
  pub made : plain_of old.memory ≡ memory_after old.base (history_of old)
  pub catalog : new.catalog ≡ old.catalog
  pub memory : new.memory ≡ old.memory
  pub phases : new.phases ≡ old.phases
  pub serial : new.numbers.serial ≡ old.numbers.serial
  pub outs : new.outs ≡ old.outs
  pub was : old.dumper.running ≡ Some running
  pub making : running.image ≡ Some image
  pub steps : Steps number image old.memory Frozen next new.memory
  pub committing : new.committing ≡ old.committing
  pub is : new.dumper.running ≡ Some (record running { image = Some next })

-- a step that visits a page or copies a sector
abbrev pub IsOnPages : ImageStep → Type 0
IsOnPages (Call request) = ⊥
IsOnPages (PageCall lane request) = ⊥
IsOnPages (TableCall request) = ⊥
IsOnPages Frozen = ⊥
IsOnPages (Visited visit) = Unit {0}
IsOnPages (Copied copied) = Unit {0}

-- each step of the dumper keeps what is believed of the slots
pub record DumperSteps : Type 0 where
  pub begins_image : (old new : CoreView) (running : Running) (phase : Phase) (asked : List (Option Asked))
      (bodies files : List (List ℕ))
      → BeginsImage old running phase new → Believes old asked bodies files → Believes new asked bodies files
  -- the next call of a plan
  pub asks : (old new : CoreView) (running : Running) (image next : Making) (number : ℕ) (request : Asked)
      (asked : List (Option Asked)) (bodies files : List (List ℕ))
      → AsksFor old running image number (Call request) request next new → Believes old asked bodies files
      → Believes new (slice_set asked 0 (Some request)) bodies files
  -- the write of a page that was copied, and the first that writes the table
  pub writes_page : (old new : CoreView) (running : Running) (image next : Making) (number lane : ℕ) (request : Asked)
      (asked : List (Option Asked)) (bodies files : List (List ℕ))
      → AsksToWrite old running image number lane request next new → Believes old asked bodies files
      → Believes new (slice_set asked (page_lane lane) (Some request)) bodies files
  pub writes_table : (old new : CoreView) (running : Running) (image next : Making) (number : ℕ) (request : Asked)
      (asked : List (Option Asked)) (bodies files : List (List ℕ))
      → AsksFor old running image number (TableCall request) request next new → Believes old asked bodies files
      → Believes new (slice_set asked 0 (Some request)) bodies files
  -- the freeze
  pub freezes : (old new : CoreView) (running : Running) (image next : Making) (number : ℕ)
      (asked : List (Option Asked)) (bodies files : List (List ℕ))
      → FreezesMemory old running image number next new → Believes old asked bodies files
      → Believes new asked bodies files
  -- a visit of a page, and a copy of a sector
  pub works : (old new : CoreView) (running : Running) (image next : Making) (number : ℕ) (step : ImageStep)
      (asked : List (Option Asked)) (bodies files : List (List ℕ))
      → IsOnPages step → WorksOnMemory old running image number step next new → Believes old asked bodies files
      → Believes new asked bodies files

-- The merger of a core: when a merge is refused, how one begins, and what its steps and outcomes are.
use Rattle.std.specs.Prelude.{◌≡◌, ◌⊎◌, ◌↔◌, ℕ, ◌+◌, ◌<◌, ◌^◌, Bool, true, false, not, nat_le, is_some, List, [], ◌∷◌}
use Rattle.std.specs.Prelude.{length, map, Contains, Option, Some, None, slice_get}
use Rattle.std.specs.List.{list_any}
use Rattle.sd_chain.specs.Catalog.{IsTip, Opened, Places, images, place_of, serial_of}
use Rattle.sd_command.specs.declared.refusal.Refusal.{Refusal}
use Rattle.sd_command.specs.declared.refusal.Refusal.TheVariants as refusal
use Rattle.sd_command.specs.declared.reply.Reply.{Reply}
use Rattle.sd_command.specs.declared.reply.Reply.TheVariants as reply
use Rattle.sd_gate.specs.declared.phase.Phase.{Phase}
use Rattle.sd_gate.specs.declared.phase.Phase.TheVariants.{Bare}
use Rattle.sd_gate.specs.declared.request_id.RequestId.{RequestId}
use Rattle.sd_gate.specs.declared.slot_state.SlotState.{SlotState}
use Rattle.sd_gate.specs.Fits.{IsClosed, PhaseReads}
use Rattle.sd_gate.specs.Phases.{bodies_after}
use Rattle.sd_gate.specs.declared.worker.Worker.TheVariants.{Merger}
use Rattle.sd_gate.specs.Requests.{Asked}
use Rattle.sd_image.specs.declared.header.Kind.{Kind}
use Rattle.sd_image.specs.declared.header.Kind.TheVariants.{PreDump, Dump, Merged}
use Rattle.sd_journal.specs.Kept.{JournalView}
use Rattle.sd_merge.specs.declared.merge_progress.MergeProgress.{MergeProgress}
use Rattle.sd_merge.specs.declared.merge_progress.MergeProgress.TheVariants as progress
use Rattle.sd_merge.specs.declared.merge_step.MergeStep.{MergeStep}
use Rattle.sd_merge.specs.declared.merge_step.MergeStep.TheVariants.{Call}
use Rattle.sd_merge.specs.declared.retired.Retired.{Retired}
use Rattle.sd_merge.specs.Copying.{Copying, Steps, begun_copy}
use Rattle.sd_merge.specs.Merger as merger
use Rattle.sd_merge.specs.Merger.{CopiesOn, RetiresOn, TakesList, begun_merge, copying, due, list_of, opened, retiring}
use Rattle.sd_merge.specs.Sources.{source_from}
use Rattle.sd_rounds.specs.Dumper.{Running}
use Rattle.sd_crash_safety.specs.Believes.{Believes}
use Rattle.sd_crash_safety.specs.Calls.{IsFree}
use Rattle.sd_crash_safety.specs.declared.standing.Standing.TheVariants.{Open}
use Rattle.sd_crash_safety.specs.Copies.{IsCopyAtRest, IsCopyThere}
use Rattle.sd_crash_safety.specs.Merges.{IsSpared}
use Rattle.sd_crash_safety.specs.View.{CoreView, index}
use Rattle.sd_free_slots.specs.Taken.{IsLeftOver, IsListOf, IsNeededAt}
use Rattle.sd_core.specs.Beginning.{FreeSlots, first_of, is_down, is_not_open}

-- ---- refusals

-- an image of this kind can be restored
abbrev pub is_restored : Kind → Bool
is_restored PreDump = false
is_restored Dump = true
is_restored Merged = true

-- the store shows a checkpoint
abbrev pub has_tip : Places → Bool
has_tip places = list_any (λ (i : Opened). is_restored i.header.kind) (images places)

-- why a merge can't begin, before its slot is looked for
abbrev pub merge_refusal : CoreView → Option Refusal
merge_refusal core = first_of (
    (is_not_open core.standing, refusal.NotOpen)
    ∷ (is_down core.standing, refusal.StoreDown)
    ∷ (is_some core.merger, refusal.Busy)
    ∷ (not (has_tip core.catalog), refusal.Idle)
    ∷ (nat_le (2 ^ 63) core.numbers.serial, refusal.NumbersUsed)
    ∷ [])

-- ---- a merge that has begun

-- It repeats the tip, in the lowest free slot, and knows which images were there.
pub record Merges (old new : CoreView) : Type 0 where
  pub tip : Opened
  pub is_tip : IsTip old.catalog tip
  pub slots : List ℕ
  pub free : FreeSlots old slots
  pub slot : ℕ
  pub lowest : slice_get slots 0 ≡ Some slot
  pub is : new.merger ≡ Some (begun_merge (source_from tip) slot (map serial_of (images old.catalog)))
  pub stands : new.standing ≡ old.standing
  pub dumper : new.dumper ≡ old.dumper

-- no slot is free
pub record IsFull (core : CoreView) : Type 0 where
  pub slots : List ℕ
  pub free : FreeSlots core slots
  pub none : slots ≡ []

-- what a merge leaves that none of these refuses
abbrev pub MergesAs : CoreView → Reply → CoreView → Type 0
MergesAs old reply.Worked new = Merges old new
MergesAs old (reply.Refused refusal.NoSlot) new = IsFull old × (new ≡ old)
MergesAs old (reply.Refused refusal.OutOfMemory) new = new ≡ old
MergesAs old _ new = ⊥

-- ---- its steps

-- the merged image begins, and asks for the first call of its slot's format
pub record BeginsCopy (serial : ℕ) (state : SlotState) (ticket : ℕ) (places : Places) (old : Option merger.Running)
    (request : Asked) (new : Option merger.Running) : Type 0 where
  pub merge : merger.Running
  pub was : old ≡ Some merge
  pub must_dump : merge.doing ≡ due
  pub copy : Copying
  pub steps : Steps ticket places (begun_copy (merger.order_of merge serial state)) (Call request) copy
  pub is : new ≡ Some (record merge { doing = copying copy })

-- a step on the merged image, or on one that is being closed
abbrev pub StepsAt : ℕ → Places → merger.Running → merger.Doing → MergeStep → merger.Doing → Type 0
StepsAt ticket places merge due made new = ⊥
StepsAt ticket places merge (copying copy) made new = CopiesOn ticket places copy made new
StepsAt ticket places merge (merger.opened serial) made new = ⊥
StepsAt ticket places merge (retiring r) made new = RetiresOn ticket r made new

pub record IsStepOf (ticket : ℕ) (places : Places) (old : Option merger.Running) (made : MergeStep)
    (new : Option merger.Running) : Type 0 where
  pub merge : merger.Running
  pub was : old ≡ Some merge
  pub doing : merger.Doing
  pub steps : StepsAt ticket places merge merge.doing made doing
  pub is : new ≡ Some (record merge { doing = doing })

-- an outcome with which a merge goes on: its image isn't open yet, or its list isn't over
abbrev pub IsMore : MergeProgress → Type 0
IsMore done = (done ≡ progress.More) ⊎ ((one : Retired) × (done ≡ progress.Closed one))

-- a slot of the store that the running checkpoint doesn't fill
pub record MayRead (running : Option Running) (count slot : ℕ) : Type 0 where
  pub within : slot < count
  pub spared : IsSpared running slot

-- ---- the list of the images to close

abbrev pub retires_as : Option ℕ → MergeProgress
retires_as None = progress.More
retires_as (Some serial) = progress.Merged serial

-- the list was fixed; where it is empty the merge has ended
pub record FixesList (places : Places) (running : Option Running) (outs : List (Option RequestId)) (count : ℕ)
    (old : Option merger.Running) (ended : Option ℕ) (new : Option merger.Running) : Type 0 where
  pub list : List Retired
  pub is : IsListOf places running old outs count list
  pub retires : TakesList old list (retires_as ended) new

-- ---- the merged image

-- the image of this serial is open in a merge's slot: it stands for what the merge repeats, and has no parent
pub record IsMergedImage (merge : merger.Running) (places : Places) (serial : ℕ) : Type 0 where
  pub image : Opened
  pub there : place_of places serial ≡ Some (Some image)
  pub slot : image.slot ≡ merge.slot
  pub kind : image.header.kind ≡ Merged
  pub own : image.header.serial ≡ serial
  pub stands : image.header.stands_for ≡ merge.source.stands_for
  pub checkpoint : image.header.checkpoint ≡ merge.source.checkpoint
  pub parent : image.header.parent ≡ 0

-- Between calls a merge that began its image makes it, or closes images; the image has this serial.
abbrev pub IsSerialOf : merger.Doing → ℕ → Type 0
IsSerialOf due serial = ⊥
IsSerialOf (copying copy) serial = serial ≡ copy.order.serial
IsSerialOf (opened number) serial = ⊥
IsSerialOf (retiring r) serial = serial ≡ r.serial

-- a merge ends with its image, under its serial
pub record IsMerged (serial : ℕ) (old new : CoreView) : Type 0 where
  pub merge : merger.Running
  pub was : old.merger ≡ Some merge
  pub image : IsMergedImage merge new.catalog serial
  pub own : IsSerialOf merge.doing serial

-- ---- the outcome with which the merged image enters the catalog

-- the image that a merge makes was in the making, and is in the catalog under its serial
pub record OpensMerged (merge : merger.Running) (serial : ℕ) (old new : CoreView) : Type 0 where
  pub was : old.merger ≡ Some merge
  pub copy : Copying
  pub doing : merge.doing ≡ copying copy
  pub own : serial ≡ copy.order.serial
  pub image : Opened
  pub there : place_of new.catalog serial ≡ Some (Some image)

-- a merge whose image is open, and whose list is to come
abbrev pub opened_merge : merger.Running → ℕ → merger.Running
opened_merge merge serial = record merge { doing = opened serial }

-- the list of such a merge is the one of the images that it is to close
abbrev pub HasItsList : merger.Running → CoreView → Type 0
HasItsList merge core =
    IsListOf core.catalog core.dumper.running (Some merge) core.outs (length core.phases) (list_of core.merger)

-- the store is as it is believed to be, with these bodies after the gates, and this request is out
pub record IsAsBelieved (core : CoreView) (request : Asked) (bodies : List (List ℕ)) : Type 0 where
  pub asked : List (Option Asked)
  pub files : List (List ℕ)
  pub out : slice_get asked (index Merger) ≡ Some (Some request)
  pub believes : Believes core asked bodies files

-- An image that a merge is to close: it is in the catalog, and was as the merge began, in a slot of the store that no
-- job has, and nobody needs it.
pub record IsToRetire (merge : merger.Running) (core : CoreView) (one : Retired) : Type 0 where
  pub within : one.slot < length core.phases
  pub left_over : IsLeftOver core.catalog core.dumper.running (Some merge) core.outs one
  pub unneeded : IsNeededAt core.catalog core.dumper.running (Some merge) one.slot → ⊥

-- the list has exactly those images, and rises by slot
pub record RetiresThese (merge : merger.Running) (core : CoreView) (list : List Retired) : Type 0 where
  pub each : (one : Retired) → Contains list one ↔ IsToRetire merge core one
  pub rises : (place other : ℕ) (a b : Retired) → place < other → slice_get list place ≡ Some a
      → slice_get list other ≡ Some b → a.slot < b.slot

-- ---- what that outcome leaves

-- the list of the images to close is fixed
abbrev pub FixesItsList : CoreView → CoreView → Type 0
FixesItsList old new = (merge : merger.Running) (serial : ℕ) → OpensMerged merge serial old new
    → HasItsList (opened_merge merge serial) new

-- where the store is as it is believed to be, it is of exactly those that nobody needs any more
abbrev pub ListsTheUnneeded : CoreView → Asked → CoreView → Type 0
ListsTheUnneeded old request new = (merge : merger.Running) (serial : ℕ) (bodies : List (List ℕ))
    → OpensMerged merge serial old new → IsAsBelieved old request bodies
    → RetiresThese (opened_merge merge serial) new (list_of new.merger)

-- and the image that entered is a copy of its source, with its areas: it holds at each page what the source then holds;
-- it stands in the merge's slot, on which no request is out
abbrev pub EntersAsCopy : CoreView → Asked → CoreView → Type 0
EntersAsCopy old request new = (merge : merger.Running) (serial : ℕ) (bodies : List (List ℕ))
    → OpensMerged merge serial old new → IsAsBelieved old request bodies
    → IsCopyThere merge.source.serial serial old.catalog new (bodies_after bodies request.id request.bytes)
    × IsMergedImage merge new.catalog serial × IsFree new.outs merge.slot

-- and no request is out on the slots of its source and of what that reaches; the store is open
abbrev pub EntersAtRest : CoreView → Asked → CoreView → Type 0
EntersAtRest old request new = (merge : merger.Running) (serial : ℕ) (bodies : List (List ℕ))
    → OpensMerged merge serial old new → IsAsBelieved old request bodies
    → (new.standing ≡ Open)
    × IsCopyAtRest merge.source.serial serial old.catalog new (bodies_after bodies request.id request.bytes)

-- ---- the end of a merge

-- a slot is closed, and whatever is read of it in its phase is one byte
pub record IsOneByte (phases : List Phase) (slot : ℕ) : Type 0 where
  pub bare : slice_get phases slot ≡ Some Bare
  pub reads : (body file : List ℕ) → PhaseReads Bare body file → IsClosed file × (length file ≡ 1)

-- so is the slot of each image that was on the list, and no request is out on it
pub record AreCut (old new : CoreView) : Type 0 where
  pub each : (one : Retired) → Contains (list_of old.merger) one → IsOneByte new.phases one.slot
  pub free : (one : Retired) → Contains (list_of old.merger) one → IsFree new.outs one.slot

-- where the store is as it is believed to be
abbrev pub EndsCut : CoreView → Asked → CoreView → Type 0
EndsCut old request new = (bodies : List (List ℕ)) → IsAsBelieved old request bodies → AreCut old new

-- ---- the entries of a checkpoint that ends with the merge's call

abbrev pub entries_let_go : Option Running → Option ℕ → ℕ
entries_let_go None pending = 0
entries_let_go (Some running) None = 2
entries_let_go (Some running) (Some n) = 0

pub record EndsCheckpoint (running : Option Running) (pending : Option ℕ) (old new : JournalView) : Type 0 where
  pub first : new.first ≡ old.first
  pub items : new.items ≡ old.items
  pub limit : new.limit ≡ old.limit
  pub held : new.held + entries_let_go running pending ≡ old.held

-- What is so of every core.
use Rattle.std.specs.Prelude.{◌≡◌, ◌≢◌, ◌⊎◌, ℕ, zero, suc, ◌+◌, ◌<◌, ◌≤◌, ◌^◌, Bool, true, false, if◌then◌else◌, List}
use Rattle.std.specs.Prelude.{◌∷◌, length, Option, Some, None, IfSome, slice_get}
use Rattle.std.specs.List.{list_any}
use Rattle.sd_chain.specs.Catalog.{IsHeld, Opened, Places, place_of}
use Rattle.sd_gate.specs.declared.phase.Phase.{Phase}
use Rattle.sd_gate.specs.declared.request_id.RequestId.{RequestId}
use Rattle.sd_gate.specs.declared.worker.Worker.{Worker}
use Rattle.sd_gate.specs.declared.worker.Worker.TheVariants.{Dumper, Merger, Opener}
use Rattle.sd_image.specs.declared.header.Header.{Header}
use Rattle.sd_image.specs.declared.header.Kind.TheVariants.{Merged}
use Rattle.sd_gate.specs.declared.call.Call.TheVariants.{Sync}
use Rattle.sd_journal.specs.Kept.{JournalView}
use Rattle.sd_journal.specs.History.{Base, last, pending}
use Rattle.sd_journal.specs.Legal.{IsAbove}
use Rattle.sd_journal.specs.Marked.{IsTracked, Marked, entries_of, is_of, last_visit, visiting}
use Rattle.sd_merge.specs.declared.copy_order.CopyOrder.{CopyOrder}
use Rattle.sd_merge.specs.declared.retired.Retired.{Retired}
use Rattle.sd_merge.specs.declared.stage.Stage.{Stage as CopyStage}
use Rattle.sd_merge.specs.declared.stage.Stage.TheVariants as copying_stage
use Rattle.sd_merge.specs.Copying.{Copying}
use Rattle.sd_merge.specs.Merger as merger
use Rattle.sd_merge.specs.Merger.{Doing, Retiring, due, copying, opened, retiring}
use Rattle.sd_opener.specs.Looking.{Looking, out_of_look}
use Rattle.sd_pagetable.specs.Contents.{Contents}
use Rattle.sd_rounds.specs.declared.image_order.ImageOrder.{ImageOrder}
use Rattle.sd_rounds.specs.declared.stage.Stage.{Stage}
use Rattle.sd_rounds.specs.declared.stage.Stage.TheVariants.{Format, Freeze, Pass as PassStage, Close}
use Rattle.sd_rounds.specs.Dumper.{Dumping, HasSlot, IsReserved, Running, is_frozen_image, out_of_image, out_of_running}
use Rattle.sd_rounds.specs.Dumper.{slot_of, writes_of_running}
use Rattle.sd_rounds.specs.Making.{Making, is_passing}
use Rattle.sd_rounds.specs.Pass.{Pass}
use Rattle.sd_writing.specs.Entries.{data_pages}
use Rattle.sd_rounds.specs.Writes.{AreWrites, no_writes}
use Rattle.sd_crash_safety.specs.declared.standing.Standing.{Standing}
use Rattle.sd_crash_safety.specs.declared.standing.Standing.TheVariants.{NotOpen, Open}
use Rattle.sd_crash_safety.specs.Calls.{AreOtherPages}
use Rattle.sd_crash_safety.specs.Merges.{IsSpared, MakesOther}
use Rattle.sd_crash_safety.specs.OpenerSteps.{nobody}
use Rattle.sd_core.specs.declared.numbers.Numbers.{Numbers}
use Rattle.sd_core.specs.Grown.{AreFlags, IsGated}
use Rattle.sd_core.specs.Images.{HasPreDumps, JobSlotsDiffer, begun_as}
use Rattle.sd_core.specs.LittleWork.{HasLittle}
use Rattle.sd_core.specs.Merging.{IsMergedImage}
use Rattle.sd_core.specs.Visited.{HasSettled, HasVisitedAll, is_begun}

-- how many entries are held: two for a checkpoint before its freeze, one while it is pending, and one for an opener
-- with none pending
abbrev pub held_for : Option ℕ → Option Running → Option Looking → ℕ
held_for (Some n) running opener = 1
held_for None (Some running) opener = 2
held_for None None (Some opener) = 1
held_for None None None = 0

-- the request of the opener that is out
abbrev pub out_of_opener : Option Looking → Option RequestId
out_of_opener None = None
out_of_opener (Some opener) = out_of_look opener.stage

-- an opener runs while the store isn't open, and looks at each of its slots
pub record IsOpening (standing : Standing) (phases : List Phase) (opener : Looking) : Type 0 where
  pub closed : standing ≢ Open
  pub slots : opener.slots ≡ length phases

-- whose a lane is: the first three are the workers', and the others are those of the dumper's data pages
abbrev pub worker_of_lane : ℕ → Worker
worker_of_lane zero = Dumper
worker_of_lane (suc zero) = Merger
worker_of_lane (suc (suc zero)) = Opener
worker_of_lane (suc (suc (suc lane))) = Dumper

-- the opener has no request out
pub record AreTwo (outs : List (Option RequestId)) : Type 0 where
  pub dumper : Option RequestId
  pub merger : Option RequestId
  pub pages : List (Option RequestId)
  pub are : outs ≡ dumper ∷ merger ∷ None ∷ pages

-- they write different data pages, in lanes of pages
pub record AreInPages (one other : ℕ) (a b : RequestId) : Type 0 where
  pub first : 2 < one
  pub second : 2 < other
  pub are : AreOtherPages a b

-- The requests that are out, in eleven lanes, are on different slots of the store, unless they write different data
-- pages. While it is open they are those of its jobs, and while an opener runs it alone asks. Once it is down the calls
-- of jobs that have ended are out until their outcomes come.
pub record AreOuts (standing : Standing) (outs : List (Option RequestId)) (phases : List Phase)
    (running : Option Running) (merge : Option merger.Running)
    (opener : Option Looking) : Type 0 where
  pub count : length outs ≡ 11
  pub jobs : standing ≡ Open
      → outs ≡ out_of_running running ∷ merger.out_of_merge merge ∷ None ∷ writes_of_running running
  pub opening : IfSome opener (λ one. outs ≡ None ∷ None ∷ out_of_opener opener ∷ no_writes)
  pub none : standing ≡ NotOpen → opener ≡ None → outs ≡ nobody
  pub two : opener ≡ None → AreTwo outs
  pub within : (lane : ℕ) (id : RequestId) → slice_get outs lane ≡ Some (Some id) → id.slot < length phases
  pub whose : (lane : ℕ) (id : RequestId) → slice_get outs lane ≡ Some (Some id) → id.worker ≡ worker_of_lane lane
  pub apart : (one other : ℕ) (a b : RequestId) → slice_get outs one ≡ Some (Some a)
      → slice_get outs other ≡ Some (Some b) → a.slot ≡ b.slot
      → (one ≡ other) ⊎ AreInPages one other a b

-- its journal makes its memory, and says what is pending and what is last
pub record IsJournal (base : Base) (journal : JournalView) (memory : Contents) (frozen newest : Option ℕ) : Type 0 where
  pub tracked : IsTracked base journal.items memory
  pub first : journal.first ≡ base.folded
  pub limit : journal.limit ≡ 1048576
  pub frozen_for : frozen ≡ pending (entries_of journal.items)
  pub newest_is : newest ≡ last base (entries_of journal.items)
  pub settled : HasSettled base journal.items newest

-- ---- numbers

-- The checkpoint begun last has the greatest number of all that the journal speaks of, and is the pending one if there
-- is one; no mark has a serial that wasn't given out. What was found in the store doesn't lower the next numbers.
pub record AreSoundNumbers (base : Base) (items : Marked) (frozen newest : Option ℕ) (numbers : Numbers) : Type 0 where
  pub used : (n : ℕ) → numbers.begun < n → IsAbove base (entries_of items) n
  pub newest_used : IfSome newest (λ n. n ≤ numbers.begun)
  pub frozen_used : IfSome frozen (λ n. n ≡ numbers.begun)
  pub marks : (serial : ℕ) → numbers.given < serial → list_any (is_of serial) items ≡ false
  pub checkpoints : numbers.begun ≤ numbers.checkpoint
  pub serials : numbers.given ≤ numbers.serial

-- no image has a greater checkpoint number than the greatest that was used
abbrev pub CheckpointsAreCounted : Numbers → Places → Type 0
CheckpointsAreCounted numbers places =
    (serial : ℕ) (o : Opened) → place_of places serial ≡ Some (Some o) → o.header.checkpoint ≤ numbers.checkpoint

-- ---- the checkpoint that runs

-- the header of an image has the kind and the numbers of its order
pub record IsHeaderOf (order : ImageOrder) (header : Header) : Type 0 where
  pub kind : header.kind ≡ order.kind
  pub serial : header.serial ≡ order.serial
  pub parent : header.parent ≡ order.parent
  pub checkpoint : header.checkpoint ≡ order.checkpoint

-- the plan of an image is one on its slot, and it ends with its header
abbrev pub IsStageOfImage : ImageOrder → Stage → Type 0
IsStageOfImage order (Format plan) = plan.slot ≡ order.slot
IsStageOfImage order Freeze = Unit {0}
IsStageOfImage order PassStage = Unit {0}
IsStageOfImage order (Close plan header tables) = (plan.slot ≡ order.slot) × IsHeaderOf order header

-- up to its table the journal's marks say which page it visited last
pub record IsVisiting (items : Marked) (serial : ℕ) (pass : Pass) : Type 0 where
  pub started : visiting items ≡ Some serial
  pub cursor : last_visit items serial ≡ pass.after

abbrev pub IsVisitingIn : Marked → ℕ → Pass → Stage → Type 0
IsVisitingIn items serial pass (Format plan) = IsVisiting items serial pass
IsVisitingIn items serial pass Freeze = IsVisiting items serial pass
IsVisitingIn items serial pass PassStage = IsVisiting items serial pass
IsVisitingIn items serial pass (Close plan header tables) = Unit {0}

-- An image in the making has a serial that was given out, whose place in the catalog is held.
pub record IsImageInMaking (items : Marked) (places : Places) (numbers : Numbers) (image : Making) : Type 0 where
  pub given : image.order.serial ≤ numbers.given
  pub held : IsHeld places image.order.serial
  pub stage : IsStageOfImage image.order image.stage
  pub visiting_in : IsVisitingIn items image.order.serial image.pass image.stage
  pub begun : is_begun items image.order.serial ≡ true

-- its checkpoint is pending from the freeze on
abbrev pub frozen_by : Running → Option ℕ
frozen_by running = if is_frozen_image running.image then Some running.number else None

-- an image that begins counts as one
abbrev pub begun_images : Running → Option Making → ℕ
begun_images running None = running.opened
begun_images running (Some image) = running.opened + 1

abbrev pub serials_to_come_in : Doing → ℕ
serials_to_come_in due = 1
serials_to_come_in (copying copy) = 0
serials_to_come_in (opened serial) = 0
serials_to_come_in (retiring r) = 0

-- a merged image that is to come takes a serial
abbrev pub serials_to_come : Option merger.Running → ℕ
serials_to_come None = 0
serials_to_come (Some merge) = serials_to_come_in merge.doing

-- the writes of data pages that are out are on its slot, and none is while a plan is made
abbrev pub HasWrites : Running → Option Making → Type 0
HasWrites running None = Unit {0}
HasWrites running (Some image) = AreWrites (slot_of running) (data_pages image.pass.entries) image.writes
    × (is_passing image.stage ≡ false → image.writes ≡ no_writes)

-- A checkpoint runs while the store is open, under the number that was begun last, in slots of the store, of which no
-- two are one. The pre-dumps so far are in the catalog.
pub record CheckpointRuns (base : Base) (items : Marked) (frozen : Option ℕ) (standing : Standing) (phases : List Phase)
    (places : Places)
    (merge : Option merger.Running) (opener : Option Looking) (numbers : Numbers) (running : Running) : Type 0 where
  pub stands : standing ≡ Open
  pub closed : opener ≡ None
  pub pends : frozen ≡ frozen_by running
  pub above : frozen ≡ None → IsAbove base (entries_of items) running.number
  pub some : 0 < running.number
  pub number : running.number ≡ numbers.begun
  pub few : length running.pre_dumps ≤ 8
  pub serials : numbers.serial + serials_to_come merge ≤ 2 ^ 63 + begun_images running running.image
  pub within : (slot : ℕ) → IsReserved running slot → slot < length phases
  pub apart : JobSlotsDiffer running
  pub pre_dumps : HasPreDumps (begun_as running) places running.opened running.parent
  pub asked : IfSome (out_of_image running.image) (λ id. id.slot ≡ slot_of running)
  pub whose : IfSome (out_of_image running.image) (λ id. id.worker ≡ Dumper)
  pub writes : HasWrites running running.image
  pub image : IfSome running.image (IsImageInMaking items places numbers)

-- ---- the merge that runs

-- the header of a merged image has the numbers of its source and its own serial, and names no parent
pub record IsMergedHeader (order : CopyOrder) (header : Header) : Type 0 where
  pub kind : header.kind ≡ Merged
  pub serial : header.serial ≡ order.serial
  pub stands : header.stands_for ≡ order.source.stands_for
  pub parent : header.parent ≡ 0
  pub checkpoint : header.checkpoint ≡ order.source.checkpoint

-- the plan of a merged image's body ends with its header
abbrev pub ClosesWithHeader : CopyOrder → CopyStage → Type 0
ClosesWithHeader order (copying_stage.Format plan) = Unit {0}
ClosesWithHeader order copying_stage.Pass = Unit {0}
ClosesWithHeader order (copying_stage.PageRead plan) = Unit {0}
ClosesWithHeader order (copying_stage.PageWrite plan) = Unit {0}
ClosesWithHeader order (copying_stage.Close plan header tables) = IsMergedHeader order header

-- The merged image in the making has a serial that was given out, whose place in the catalog is held, and that no image
-- of the checkpoint has.
pub record IsCopyOf (places : Places) (numbers : Numbers) (running : Option Running) (copy : Copying) : Type 0 where
  pub header : ClosesWithHeader copy.order copy.stage
  pub given : copy.order.serial ≤ numbers.given
  pub held : IsHeld places copy.order.serial
  pub other : MakesOther running copy.order.serial

-- an image of the list stands in a slot of the store, which is neither the merged image's nor one of the checkpoint
pub record IsToClose (phases : List Phase) (running : Option Running) (slot : ℕ) (one : Retired) : Type 0 where
  pub within : one.slot < length phases
  pub spared : HasSlot running one.slot → ⊥
  pub apart : one.slot ≢ slot

-- the merged image is open, and the images of the list, rising by slot, are closed: what is asked for is on none but
-- their slots
pub record IsClosingAll (phases : List Phase) (places : Places) (running : Option Running) (merge : merger.Running)
    (r : Retiring) : Type 0 where
  pub image : IsMergedImage merge places r.serial
  pub elsewhere : (id : RequestId) → r.plan.out ≡ Some id → id.slot ≢ merge.slot
  pub each : (place : ℕ) (one : Retired) → slice_get r.list place ≡ Some one → IsToClose phases running merge.slot one
  pub rises : (place other : ℕ) (a b : Retired) → place < other → slice_get r.list place ≡ Some a
      → slice_get r.list other ≡ Some b → a.slot < b.slot

abbrev pub IsDoing : List Phase → Places → Numbers → ℕ → Option Running → merger.Running → Doing → Type 0
IsDoing phases places numbers room running merge due = (numbers.serial < 2 ^ 63 + 9) × (room ≡ length phases)
IsDoing phases places numbers room running merge (copying copy) =
    IsCopyOf places numbers running copy × (room ≡ length phases)
IsDoing phases places numbers room running merge (opened serial) = ⊥
IsDoing phases places numbers room running merge (retiring r) = IsClosingAll phases places running merge r

-- A merge runs while the store is open, in a slot of the store that no checkpoint has. What it asks for is on no slot
-- that the checkpoint fills, and a sync on none of its slots.
pub record MergeRuns (standing : Standing) (phases : List Phase) (places : Places) (opener : Option Looking)
    (numbers : Numbers) (room : ℕ) (running : Option Running)
    (merge : merger.Running) : Type 0 where
  pub stands : standing ≡ Open
  pub closed : opener ≡ None
  pub within : merge.slot < length phases
  pub spared : HasSlot running merge.slot → ⊥
  pub counted : merge.source.checkpoint ≤ numbers.checkpoint
  pub asks : (id : RequestId) → merger.out_in merge.doing ≡ Some id → IsSpared running id.slot
  pub syncs : (id : RequestId) → merger.out_in merge.doing ≡ Some id → id.call ≡ Sync → HasSlot running id.slot → ⊥
  pub doing : IsDoing phases places numbers room running merge merge.doing

-- ---- all of it

-- the parts of a core
pub record Parts : Type 0 where
  pub base : Base
  pub journal : JournalView
  pub memory : Contents
  pub frozen : Option ℕ
  pub newest : Option ℕ
  pub standing : Standing
  pub phases : List Phase
  pub outs : List (Option RequestId)
  pub places : Places
  pub dumper : Dumping
  pub merger : Option merger.Running
  -- for how many slots there is room in the list to come
  pub room : ℕ
  pub opener : Option Looking
  pub numbers : Numbers
  pub grows : Bool
  pub committing : Bool
  -- the pass of the pending checkpoint's dump is over
  pub swept : Bool

pub record IsCore (core : Parts) : Type 0 where
  pub journal_is : IsJournal core.base core.journal core.memory core.frozen core.newest
  pub held : core.journal.held ≡ held_for core.frozen core.dumper.running core.opener
  pub outs_are : AreOuts core.standing core.outs core.phases core.dumper.running core.merger core.opener
  pub opening : IfSome core.opener (IsOpening core.standing core.phases)
  pub numbers_are : AreSoundNumbers core.base core.journal.items core.frozen core.newest core.numbers
  pub counted : CheckpointsAreCounted core.numbers core.places
  -- while the store is open a checkpoint is pending only while it runs
  pub rests : core.dumper.running ≡ None → core.standing ≡ Open → core.frozen ≡ None
  pub work : IfSome core.dumper.running
      (CheckpointRuns core.base core.journal.items core.frozen core.standing core.phases core.places core.merger
      core.opener
      core.numbers)
  pub little : IfSome core.dumper.running (HasLittle core.base core.journal.items core.memory)
  pub merging : IfSome core.merger
      (MergeRuns core.standing core.phases core.places core.opener core.numbers core.room core.dumper.running)
  pub visited_is : HasVisitedAll core.swept core.frozen core.memory
  pub flags_are : AreFlags core.base core.journal.items core.swept core.grows core.committing
  pub gated : IfSome core.dumper.running (IsGated core.swept)

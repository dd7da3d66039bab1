-- The merger, as it is seen: the merged image, and then the images that are closed.
use Rattle.std.specs.Prelude.{◌≡◌, ◌≢◌, ◌⊎◌, ℕ, ◌+◌, ◌<◌, Bool, true, false, if◌then◌else◌, List, [], length, slice_get}
use Rattle.std.specs.Prelude.{Option, Some, None, IsSome}
use Rattle.sd_chain.specs.Catalog.{Places}
use Rattle.sd_gate.specs.declared.call.Call.TheVariants.{Sync}
use Rattle.sd_gate.specs.declared.request_id.RequestId.{RequestId}
use Rattle.sd_gate.specs.declared.slot_state.SlotState.{SlotState}
use Rattle.sd_gate.specs.Calls.{is_done}
use Rattle.sd_gate.specs.Inspections.{nothing}
use Rattle.sd_gate.specs.Plans.{Gives, Planned, begun, plan_after}
use Rattle.sd_gate.specs.Requests.{Asked, Made}
use Rattle.sd_gate.specs.Sequences.{closing_calls}
use Rattle.sd_writing.specs.declared.new_image.NewImage.{NewImage}
use Rattle.sd_gate.specs.declared.worker.Worker.TheVariants.{Merger}
use Rattle.sd_gate.specs.PlanUse.{IsAskedBy, IsUnderWay, outcomes_of}
use Rattle.sd_merge.specs.declared.closing.Closing.{Closing}
use Rattle.sd_merge.specs.declared.copy_order.CopyOrder.{CopyOrder}
use Rattle.sd_writing.specs.declared.written.Written.{Written}
use Rattle.sd_writing.specs.declared.written.Written.TheVariants as image
use Rattle.sd_merge.specs.declared.job.Job.{Job}
use Rattle.sd_merge.specs.declared.job.Job.TheVariants as job
use Rattle.sd_merge.specs.declared.merge.Merge.{Merge}
use Rattle.sd_merge.specs.declared.merge_progress.MergeProgress.{MergeProgress}
use Rattle.sd_merge.specs.declared.merge_progress.MergeProgress.TheVariants as progress
use Rattle.sd_merge.specs.declared.merge_step.MergeStep.{MergeStep}
use Rattle.sd_merge.specs.declared.merge_step.MergeStep.TheVariants as step
use Rattle.sd_merge.specs.declared.retired.Retired.{Retired}
use Rattle.sd_merge.specs.declared.source.Source.{Source}
use Rattle.sd_merge.specs.declared.stage.Stage.TheVariants.{Pass as PassStage}
use Rattle.sd_merge.specs.Copying.{Copying, HandsIn, IsLost, IsSoundCopying, Steps, begun_copy, out_of}

-- the images of a merge's list: how many are after, and the calls on the one that is being closed
pub record Retiring : Type 0 where
  pub serial : ℕ
  pub list : List Retired
  pub ended : ℕ
  pub plan : Planned

abbrev pub retiring_of : Closing → Retiring
retiring_of c = record { serial = c.serial; list = c.list.items; ended = c.ended; plan = c.plan }

-- how far a merge is
pub data Doing : Type 0 where
  -- the next step begins the merged image
  due : Doing
  copying : Copying → Doing
  -- the image of this serial is open, and the list of the images to close is awaited
  opened : ℕ → Doing
  retiring : Retiring → Doing

abbrev pub doing_of : Job → Doing
doing_of job.Due = due
doing_of (job.Copying copier) = copying copier
doing_of (job.Opened serial) = opened serial
doing_of (job.Closing closing) = retiring (retiring_of closing)

-- a merge that runs: what it repeats, the slot of its image, and the serials of the images that were in the catalog as
-- it began
pub record Running : Type 0 where
  pub source : Source
  pub slot : ℕ
  pub before : List ℕ
  pub doing : Doing

abbrev pub running_of : Merge → Running
running_of m = record { source = m.source; slot = m.slot; before = m.before.items; doing = doing_of m.job }

-- a merge that begins
abbrev pub begun_merge : Source → ℕ → List ℕ → Running
begun_merge source slot before = record { source = source; slot = slot; before = before; doing = due }

-- what is fixed of its image
abbrev pub order_of : Running → ℕ → SlotState → CopyOrder
order_of running serial state = record { source = running.source; slot = running.slot; state = state; serial = serial }

-- ---- Steps

-- a step on the merged image
pub record CopiesOn (ticket : ℕ) (places : Places) (old : Copying) (made : MergeStep) (new : Doing) : Type 0 where
  pub copy : Copying
  pub steps : Steps ticket places old made copy
  pub is : new ≡ copying copy

-- the next call on the image that is being closed is asked for
pub record RetiresOn (ticket : ℕ) (old : Retiring) (made : MergeStep) (new : Doing) : Type 0 where
  pub request : Asked
  pub call : made ≡ step.Call request
  pub next : Planned
  pub gives : Gives old.plan next request
  pub asked : IsAskedBy Merger ticket request
  pub is : new ≡ retiring (record old { plan = next })

abbrev pub WorksAt : ℕ → SlotState → ℕ → Places → Running → Doing → MergeStep → Doing → Type 0
WorksAt serial state ticket places running due made new =
    CopiesOn ticket places (begun_copy (order_of running serial state)) made new
WorksAt serial state ticket places running (copying copy) made new = CopiesOn ticket places copy made new
WorksAt serial state ticket places running (opened number) made new = ⊥
WorksAt serial state ticket places running (retiring r) made new = RetiresOn ticket r made new

pub record WorksOn (serial : ℕ) (state : SlotState) (ticket : ℕ) (places : Places) (old : Running) (made : MergeStep)
    (new : Running) : Type 0 where
  pub works : WorksAt serial state ticket places old old.doing made new.doing
  pub is : new ≡ record old { doing = new.doing }

pub record Works (serial : ℕ) (state : SlotState) (ticket : ℕ) (places : Places) (old : Option Running)
    (made : MergeStep) (new : Option Running) : Type 0 where
  pub running : Running
  pub was : old ≡ Some running
  pub next : Running
  pub works : WorksOn serial state ticket places running made next
  pub is : new ≡ Some next

-- the request that is out
abbrev pub out_in : Doing → Option RequestId
out_in due = None
out_in (copying copy) = out_of copy.stage
out_in (opened serial) = None
out_in (retiring r) = r.plan.out

-- the request of the merge that is out
abbrev pub out_of_merge : Option Running → Option RequestId
out_of_merge None = None
out_of_merge (Some running) = out_in running.doing

-- a request is out, or the list of the images to close is awaited
abbrev pub IsBusyWith : Doing → Type 0
IsBusyWith due = ⊥
IsBusyWith (copying copy) = IsSome (out_of copy.stage)
IsBusyWith (opened serial) = Unit {0}
IsBusyWith (retiring r) = IsSome r.plan.out

abbrev pub IsBusy : Option Running → Type 0
IsBusy None = ⊥
IsBusy (Some running) = IsBusyWith running.doing

-- pages of the source are being taken
abbrev pub IsInPass : Doing → Type 0
IsInPass due = ⊥
IsInPass (copying copy) = copy.stage ≡ PassStage
IsInPass (opened serial) = ⊥
IsInPass (retiring r) = ⊥

abbrev pub MergePasses : Option Running → Type 0
MergePasses None = ⊥
MergePasses (Some running) = IsInPass running.doing

-- the catalog doesn't have the next page
abbrev pub LosesPage : Places → Doing → Type 0
LosesPage places due = ⊥
LosesPage places (copying copy) = IsLost places copy
LosesPage places (opened serial) = ⊥
LosesPage places (retiring r) = ⊥

-- the source of the merge has a page that its chain doesn't hold
abbrev pub Loses : Places → Option Running → Type 0
Loses places None = ⊥
Loses places (Some running) = LosesPage places running.doing

-- the slot of the merged image, where the next step begins it
abbrev pub slot_to_begin : Running → Doing → Option ℕ
slot_to_begin running due = Some running.slot
slot_to_begin running (copying copy) = None
slot_to_begin running (opened serial) = None
slot_to_begin running (retiring r) = None

-- the slot of the merged image, where the merge hasn't begun it
abbrev pub slot_before : Option Running → Option ℕ
slot_before None = None
slot_before (Some running) = slot_to_begin running running.doing

-- ---- Outcomes

-- an outcome of the merged image, which goes on
pub record HandsCopy (old : Copying) (made : Made) (done : Written) (new : Doing) : Type 0 where
  pub copy : Copying
  pub hands : HandsIn old made done copy
  pub is : new ≡ copying copy

-- the merged image is open
pub record OpensCopy (old : Copying) (made : Made) (one : NewImage) (new : Doing) : Type 0 where
  pub copy : Copying
  pub hands : HandsIn old made (image.Opened one) copy
  pub is : new ≡ opened one.header.serial

-- a call on an image of the list was done
pub record IsDoneOf (old : Retiring) (made : Made) : Type 0 where
  pub out : old.plan.out ≡ Some made.request.id
  pub done : is_done made.answer ≡ true
  pub one : outcomes_of (plan_after old.plan made) + 1 ≡ outcomes_of old.plan

-- calls on it are left
pub record GoesOnWith (old : Retiring) (made : Made) (new : Retiring) : Type 0 where
  pub done : IsDoneOf old made
  pub left : (plan_after old.plan made).calls ≢ []
  pub is : new ≡ record old { plan = plan_after old.plan made }

-- the next image of the list
pub record EndsOne (old : Retiring) (new : Retiring) : Type 0 where
  pub next : Retired
  pub there : slice_get old.list (old.ended + 1) ≡ Some next
  pub is : new ≡ record old { ended = old.ended + 1; plan = begun next.slot closing_calls nothing }

-- none is left
pub record EndsAll (old : Retiring) (serial : ℕ) : Type 0 where
  pub over : slice_get old.list (old.ended + 1) ≡ None
  pub number : serial ≡ old.serial

-- after the last call on an image
abbrev pub EndsRetiring : Retiring → MergeProgress → Retiring → Type 0
EndsRetiring old progress.Strange new = ⊥
EndsRetiring old progress.Failed new = ⊥
EndsRetiring old progress.More new = EndsOne old new
EndsRetiring old (progress.Opened one) new = ⊥
EndsRetiring old (progress.Closed one) new = ⊥
EndsRetiring old (progress.Merged serial) new = EndsAll old serial

-- the last call on an image was done
pub record IsLastCall (old : Retiring) (made : Made) : Type 0 where
  pub done : IsDoneOf old made
  pub last : (plan_after old.plan made).calls ≡ []

-- a call that was no sync goes on, and the last goes to the next image
abbrev pub GoesOnClosing : Retiring → Made → Retiring → Type 0
GoesOnClosing old made new =
    (GoesOnWith old made new × (made.request.id.call ≢ Sync)) ⊎ (IsLastCall old made × EndsOne old new)

-- a 0 stands at its first byte for sure
pub record ShutsOne (old : Retiring) (made : Made) (one : Retired) (new : Retiring) : Type 0 where
  pub goes : GoesOnWith old made new
  pub call : made.request.id.call ≡ Sync
  pub there : slice_get old.list old.ended ≡ Some one

pub record FailsClosing (old : Retiring) (made : Made) : Type 0 where
  pub out : old.plan.out ≡ Some made.request.id
  pub failed : is_done made.answer ≡ false

-- what the outcome of a call that closes an image changes
abbrev pub HandsClosing : Retiring → Made → MergeProgress → Retiring → Type 0
HandsClosing old made progress.Strange new = (old.plan.out ≢ Some made.request.id) × (new ≡ old)
HandsClosing old made progress.Failed new = FailsClosing old made
HandsClosing old made progress.More new = GoesOnClosing old made new
HandsClosing old made (progress.Opened one) new = ⊥
HandsClosing old made (progress.Closed one) new = ShutsOne old made one new
HandsClosing old made (progress.Merged serial) new = IsLastCall old made × EndsAll old serial

-- it is strange, and nothing changed
abbrev pub StaysStrange : Doing → MergeProgress → Doing → Type 0
StaysStrange old progress.Strange new = new ≡ old
StaysStrange old progress.Failed new = ⊥
StaysStrange old progress.More new = ⊥
StaysStrange old (progress.Opened one) new = ⊥
StaysStrange old (progress.Closed one) new = ⊥
StaysStrange old (progress.Merged serial) new = ⊥

abbrev pub HandsCopying : Copying → Made → MergeProgress → Doing → Type 0
HandsCopying old made progress.Strange new = HandsCopy old made image.Strange new
HandsCopying old made progress.Failed new = HandsCopy old made image.Failed new
HandsCopying old made progress.More new = HandsCopy old made image.More new
HandsCopying old made (progress.Opened one) new = OpensCopy old made one new
HandsCopying old made (progress.Closed one) new = ⊥
HandsCopying old made (progress.Merged serial) new = ⊥

pub record HandsRetiring (old : Retiring) (made : Made) (done : MergeProgress) (new : Doing) : Type 0 where
  pub next : Retiring
  pub hands : HandsClosing old made done next
  pub is : new ≡ retiring next

abbrev pub HandsAt : Doing → Made → MergeProgress → Doing → Type 0
HandsAt due made done new = StaysStrange due done new
HandsAt (copying copy) made done new = HandsCopying copy made done new
HandsAt (opened serial) made done new = StaysStrange (opened serial) done new
HandsAt (retiring r) made done new = HandsRetiring r made done new

pub record HandsTo (old : Running) (made : Made) (done : MergeProgress) (new : Running) : Type 0 where
  pub hands : HandsAt old.doing made done new.doing
  pub is : new ≡ record old { doing = new.doing }

-- whether the merge ends
abbrev pub ends : MergeProgress → Bool
ends progress.Strange = false
ends progress.Failed = true
ends progress.More = false
ends (progress.Opened one) = false
ends (progress.Closed one) = false
ends (progress.Merged serial) = true

abbrev pub is_strange : MergeProgress → Bool
is_strange progress.Strange = true
is_strange progress.Failed = false
is_strange progress.More = false
is_strange (progress.Opened one) = false
is_strange (progress.Closed one) = false
is_strange (progress.Merged serial) = false

-- an outcome of a request that was out
pub record IsHanded (old : Option Running) (made : Made) (done : MergeProgress) (new : Option Running) : Type 0 where
  pub running : Running
  pub was : old ≡ Some running
  pub next : Running
  pub hands : HandsTo running made done next
  pub is : new ≡ (if ends done then None else Some next)

pub record IsStrange (old : Option Running) (made : Made) (new : Option Running) : Type 0 where
  pub other : out_of_merge old ≢ Some made.request.id
  pub same : new ≡ old

abbrev pub Hands : Option Running → Made → MergeProgress → Option Running → Type 0
Hands old made progress.Strange new = IsStrange old made new
Hands old made progress.Failed new = IsHanded old made progress.Failed new
Hands old made progress.More new = IsHanded old made progress.More new
Hands old made (progress.Opened one) new = IsHanded old made (progress.Opened one) new
Hands old made (progress.Closed one) new = IsHanded old made (progress.Closed one) new
Hands old made (progress.Merged serial) new = IsHanded old made (progress.Merged serial) new

-- ---- The list of the images to close

-- the serial of the merged image, where the list is awaited
abbrev pub awaited_in : Doing → Option ℕ
awaited_in due = None
awaited_in (copying copy) = None
awaited_in (opened serial) = Some serial
awaited_in (retiring r) = None

-- the serial of the merged image after which the list of images to close is awaited
abbrev pub awaited : Option Running → Option ℕ
awaited None = None
awaited (Some running) = awaited_in running.doing

-- the first image of the list is begun
pub record BeginsList (old : Option Running) (list : List Retired) (new : Option Running) : Type 0 where
  pub running : Running
  pub was : old ≡ Some running
  pub serial : ℕ
  pub opened : running.doing ≡ opened serial
  pub first : Retired
  pub there : slice_get list 0 ≡ Some first
  pub is : new ≡ Some (record running {
    doing =
        retiring (record { serial = serial; list = list; ended = 0; plan = begun first.slot closing_calls nothing });
  })

-- the list is empty, and the merge has ended
pub record EndsAtOnce (old : Option Running) (list : List Retired) (serial : ℕ) (new : Option Running) : Type 0 where
  pub awaited : awaited old ≡ Some serial
  pub none : list ≡ []
  pub is : new ≡ None

-- what a merge does with the list of images that it has to close
abbrev pub TakesList : Option Running → List Retired → MergeProgress → Option Running → Type 0
TakesList old list progress.Strange new = (awaited old ≡ None) × (new ≡ old)
TakesList old list progress.Failed new = ⊥
TakesList old list progress.More new = BeginsList old list new
TakesList old list (progress.Opened one) new = ⊥
TakesList old list (progress.Closed one) new = ⊥
TakesList old list (progress.Merged serial) new = EndsAtOnce old list serial new

-- the images of the list, also those that are closed by now
abbrev pub list_in : Doing → List Retired
list_in due = []
list_in (copying copy) = []
list_in (opened serial) = []
list_in (retiring r) = r.list

-- the images that a merge has to close
abbrev pub list_of : Option Running → List Retired
list_of None = []
list_of (Some running) = list_in running.doing

-- what is repeated, until the merged image is open
abbrev pub source_in : Running → Doing → Option Source
source_in running due = Some running.source
source_in running (copying copy) = Some running.source
source_in running (opened serial) = None
source_in running (retiring r) = None

-- the image whose chain the merge copies
abbrev pub source_of : Option Running → Option Source
source_of None = None
source_of (Some running) = source_in running running.doing

abbrev pub slot_of : Running → ℕ
slot_of running = running.slot

abbrev pub before_of : Option Running → List ℕ
before_of None = []
before_of (Some running) = running.before

-- ---- What holds of every merge

-- calls on the image of the list that is being closed are left or out
pub record IsRetiring (r : Retiring) : Type 0 where
  pub under_way : IsUnderWay r.plan
  pub some : r.ended < length r.list
  pub own : (one : Retired) → slice_get r.list r.ended ≡ Some one → r.plan.slot ≡ one.slot

-- the image that is made is the merge's, and an image of the list is being closed
abbrev pub IsRunningAt : Running → Doing → Type 0
IsRunningAt running due = Unit {0}
IsRunningAt running (copying copy) = copy.order ≡ order_of running copy.order.serial copy.order.state
IsRunningAt running (opened serial) = Unit {0}
IsRunningAt running (retiring r) = IsRetiring r

abbrev pub IsRunning : Running → Type 0
IsRunning running = IsRunningAt running running.doing

-- what holds of a merged image in the making, and of one that there may be
abbrev pub HasSoundCopyIn : Doing → Type 0
HasSoundCopyIn due = Unit {0}
HasSoundCopyIn (copying copy) = IsSoundCopying copy
HasSoundCopyIn (opened serial) = Unit {0}
HasSoundCopyIn (retiring r) = Unit {0}

-- the merged image that a merge makes, if it makes one, is sound
abbrev pub HasSoundCopy : Option Running → Type 0
HasSoundCopy None = Unit {0}
HasSoundCopy (Some running) = HasSoundCopyIn running.doing

-- what holds of the merge that runs, if one does
abbrev pub AreRunning : Option Running → Type 0
AreRunning None = Unit {0}
AreRunning (Some running) = IsRunning running

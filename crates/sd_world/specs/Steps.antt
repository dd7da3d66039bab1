-- What an event does to a core, a disk and what is kept.
use Rattle.std.specs.Prelude.{◌≡◌, ◌≢◌, ◌⊎◌, ℕ, ◌<◌, true, List, Option, Some, Result, Ok, Err, slice_get, slice_set}
use Rattle.std.specs.Prelude.{length}
use Rattle.sd_command.specs.declared.command.Command.{Command as CommandOf}
use Rattle.sd_command.specs.declared.refusal.Refusal.{Refusal}
use Rattle.sd_command.specs.declared.refusal.Refusal.TheVariants.{Idle, Device}
use Rattle.sd_command.specs.declared.reply.Reply.{Reply}
use Rattle.sd_command.specs.declared.reply.Reply.TheVariants as reply
use Rattle.sd_disk.specs.Contents.{file_at}
use Rattle.sd_disk.specs.OneCall.{IsOneCall}
use Rattle.sd_disk.specs.declared.disk.Disk.{Ghosts}
use Rattle.sd_gate.specs.declared.answer.Answer.{Answer}
use Rattle.sd_gate.specs.declared.answer.Answer.TheVariants.{Done, Len, Failed}
use Rattle.sd_gate.specs.declared.phase.Phase.{Phase}
use Rattle.sd_gate.specs.declared.request_id.RequestId.{RequestId}
use Rattle.sd_gate.specs.declared.worker.Worker.{Worker}
use Rattle.sd_gate.specs.Calls.{AnswerHasCause, CallFinds, IsAnswerTo, is_done}
use Rattle.sd_gate.specs.Fits.{SlotFits}
use Rattle.sd_gate.specs.Phases.{after, body_after, is_ready}
use Rattle.sd_gate.specs.Requests.{Asked, Made}
use Rattle.sd_crash_safety.specs.Calls.{StaysBelieved}
use Rattle.sd_crash_safety.specs.Laws.{IsMadeOf}
use Rattle.sd_crash_safety.specs.View.{CoreView}
use Rattle.sd_core.specs.declared.taken.Taken.TheVariants.{Step as StepTaken, Call as CallTaken}
use Rattle.sd_core.specs.Called.{IsApplied, IsBegun, IsCancelOrder, IsHandedIn, IsMergeOrder, IsReopenOrder, IsTakenUp}
use Rattle.sd_world.specs.declared.event.Event.{Event}
use Rattle.sd_world.specs.declared.event.Event.TheVariants.{Command, Begin, Work, TakeUp, HandInAt, Perform, PerformAt}
use Rattle.sd_world.specs.declared.event.Event.TheVariants.{Merge, Cancel, Reopen, Trim}
use Rattle.sd_world.specs.declared.kept.Kept.{Kept}
use Rattle.sd_world.specs.declared.kept.Kept.TheVariants.{Nothing, Request, Outcome}
use Rattle.sd_world.specs.declared.call_state.CallState.TheVariants as its
use Rattle.sd_world.specs.Trims.{TrimsJournal}
use Rattle.sd_world.specs.View.{IsAt, IsNowhere, WorldView}

-- ---- a worker's event

-- what is left of a worker's job after its event: less, unless that ended the job or was refused
abbrev pub LeavesLess : Reply → ℕ → ℕ → Type 0
LeavesLess reply.Worked before now = now < before
LeavesLess (reply.Acked n) before now = Unit {0}
LeavesLess (reply.Merged serial) before now = Unit {0}
LeavesLess (reply.Reopened m) before now = Unit {0}
LeavesLess (reply.Refused why) before now = Unit {0}
LeavesLess _ before now = ⊥

-- a request is kept in the lane in which it is out
pub record KeepsRequest (outs : List (Option RequestId)) (kept : List Kept) (request : Asked)
    (later : List Kept) : Type 0 where
  pub lane : ℕ
  pub out : slice_get outs lane ≡ Some (Some request.id)
  pub left : later ≡ slice_set kept lane (Request request)

-- its next step is made, or its next request is kept
pub data WorkerTakesUp (worker : Worker) (old : CoreView) (kept : List Kept) (answer : Reply) (new : CoreView)
    (later : List Kept) : Type 0 where
  step : IsTakenUp worker old (StepTaken answer) new → later ≡ kept → WorkerTakesUp worker old kept answer new later
  call : (request : Asked) → IsTakenUp worker old (CallTaken request) new → KeepsRequest new.outs kept request later
      → answer ≡ reply.Worked
      → WorkerTakesUp worker old kept answer new later

-- the outcome in this lane is handed in, and not kept any more
pub record HandsInKept (lane : ℕ) (old : CoreView) (kept : List Kept) (made : Made) (answer : Reply) (new : CoreView)
    (later : List Kept) : Type 0 where
  pub does : IsHandedIn made answer old new
  pub left : later ≡ slice_set kept lane Nothing

-- the outcome of the worker at this place is handed in
pub record HandsInAt (worker : Worker) (place : ℕ) (old : CoreView) (kept : List Kept) (answer : Reply) (new : CoreView)
    (later : List Kept) : Type 0 where
  pub lane : ℕ
  pub at : IsAt kept its.Made worker place lane
  pub made : Made
  pub is : slice_get kept lane ≡ Some (Outcome made)
  pub hands : HandsInKept lane old kept made answer new later

-- refused as idle, and nothing changes
pub record IsUnasked (old : CoreView) (kept : List Kept) (answer : Reply) (new : CoreView)
    (later : List Kept) : Type 0 where
  pub refused : answer ≡ reply.Refused Idle
  pub core : new ≡ old
  pub left : later ≡ kept

-- the first outcome of the worker is handed in, or else it takes up what is next
pub data WorkerWorks (worker : Worker) (old : CoreView) (kept : List Kept) (answer : Reply) (new : CoreView)
    (later : List Kept) : Type 0 where
  hands_in : HandsInAt worker 0 old kept answer new later → WorkerWorks worker old kept answer new later
  takes_up : IsNowhere kept its.Made worker 0 → WorkerTakesUp worker old kept answer new later
      → WorkerWorks worker old kept answer new later

-- the outcome of the worker at this place is handed in, where there is one
pub data HandsInIfAny (worker : Worker) (place : ℕ) (old : CoreView) (kept : List Kept) (answer : Reply)
    (new : CoreView) (later : List Kept) : Type 0 where
  hands_in : HandsInAt worker place old kept answer new later → HandsInIfAny worker place old kept answer new later
  none : IsNowhere kept its.Made worker place → IsUnasked old kept answer new later
      → HandsInIfAny worker place old kept answer new later

-- ---- a device call

abbrev pub reply_of_answer : Answer → Reply
reply_of_answer Done = reply.Worked
reply_of_answer (Len len) = reply.Worked
reply_of_answer Failed = reply.Refused Device

-- worked where the device did it, and refused where it failed
abbrev pub IsAnsweredByDevice : ℕ → ℕ → Reply → Type 0
IsAnsweredByDevice before now answer =
    ((answer ≡ reply.Worked) × (now ≡ before)) ⊎ ((answer ≡ reply.Refused Device) × (before < now))

-- the call of a request is made, and no other
pub record IsPerformed {D : Type 0} (g : Ghosts D) (request : Asked) (old : D) (made : Made) (new : D) : Type 0 where
  pub made_of : IsMadeOf request made (g.contents old) (g.contents new)
  pub count : length (g.contents new) ≡ length (g.contents old)
  pub answers : is_done made.answer ≡ true → IsAnswerTo request.id.call made.answer
  pub tells : g.is_honest new → is_done made.answer ≡ true
      → CallFinds request.id.call (file_at (g.contents old) request.id.slot) made.answer made.request.bytes
  pub others : (other : ℕ) → other ≢ request.id.slot → file_at (g.contents new) other ≡ file_at (g.contents old) other
  pub fits : (phase : Phase) (body : List ℕ) → is_ready phase request.id.call ≡ true
      → SlotFits phase body request.id.slot (g.contents old) (g.may_leave old)
      → SlotFits (after phase request.id.call (is_done made.answer))
      (body_after body request.id.call request.bytes) request.id.slot
      (g.contents new) (g.may_leave new)
  pub elsewhere : (other : ℕ) (phase : Phase) (body : List ℕ) → other ≢ request.id.slot
      → SlotFits phase body other (g.contents old) (g.may_leave old)
      → SlotFits phase body other (g.contents new) (g.may_leave new)
  pub one_call : IsOneCall g old new
  pub cause : AnswerHasCause (g.failed old) (g.failed new) made.answer

-- the request that is kept in this lane is performed, and its outcome kept
pub record KeepsOutcome {D : Type 0} (g : Ghosts D) (lane : ℕ) (request : Asked) (old : D) (kept : List Kept)
    (answer : Reply) (new : D) (later : List Kept) : Type 0 where
  pub made : Made
  pub performed : IsPerformed g request old made new
  pub left : later ≡ slice_set kept lane (Outcome made)
  pub replied : answer ≡ reply_of_answer made.answer

-- the request of the worker at this place is performed
pub record PerformsAt {D : Type 0} (g : Ghosts D) (worker : Worker) (place : ℕ) (old : D) (kept : List Kept)
    (answer : Reply) (new : D) (later : List Kept) : Type 0 where
  pub lane : ℕ
  pub at : IsAt kept its.Asked worker place lane
  pub request : Asked
  pub is : slice_get kept lane ≡ Some (Request request)
  pub keeps : KeepsOutcome g lane request old kept answer new later

-- refused as idle, and nothing changes
pub record IsIdle {D : Type 0} (old : D) (kept : List Kept) (answer : Reply) (new : D)
    (later : List Kept) : Type 0 where
  pub refused : answer ≡ reply.Refused Idle
  pub disk : new ≡ old
  pub left : later ≡ kept

-- the request of the worker at this place is performed, where there is one
pub data Performs {D : Type 0} (g : Ghosts D) (worker : Worker) (place : ℕ) (old : D) (kept : List Kept)
    (answer : Reply) (new : D) (later : List Kept) : Type 0 where
  performs : PerformsAt g worker place old kept answer new later → Performs g worker place old kept answer new later
  none : IsNowhere kept its.Asked worker place → IsIdle old kept answer new later
      → Performs g worker place old kept answer new later

-- ---- all events

-- a call of the core alone touches neither the disk nor what is kept
pub record ChangesCoreAlone {D : Type 0} (old new : WorldView D) : Type 0 where
  pub disk : new.disk ≡ old.disk
  pub kept : new.kept ≡ old.kept

-- how a command is answered, without its entry's number
abbrev pub answer_of : Result (ℕ × Reply) Refusal → Reply
answer_of (Ok told) = told.1
answer_of (Err why) = reply.Refused why

-- a command is applied, and answered by what the core said
pub record IsCommand {D : Type 0} (seat : ℕ) (command : CommandOf) (old : WorldView D) (answer : Reply)
    (new : WorldView D) : Type 0 where
  pub told : Result (ℕ × Reply) Refusal
  pub applied : IsApplied seat command told old.core new.core
  pub answered : answer ≡ answer_of told
  pub rest : ChangesCoreAlone old new

-- a trim touches the base and the journal of the core alone, and what that believes of the store stays
pub record IsTrim {D : Type 0} (old : WorldView D) (answer : Reply) (new : WorldView D) : Type 0 where
  pub trims : TrimsJournal old.core answer new.core
  pub goes_on : (asked : List (Option Asked)) → StaysBelieved old.core asked new.core asked
  pub disk : new.disk ≡ old.disk
  pub kept : new.kept ≡ old.kept

pub record IsWork {D : Type 0} (worker : Worker) (old : WorldView D) (answer : Reply) (new : WorldView D) : Type 0 where
  pub works : WorkerWorks worker old.core old.kept answer new.core new.kept
  pub disk : new.disk ≡ old.disk

pub record IsTakeUp {D : Type 0} (worker : Worker) (old : WorldView D) (answer : Reply)
    (new : WorldView D) : Type 0 where
  pub takes : WorkerTakesUp worker old.core old.kept answer new.core new.kept
  pub disk : new.disk ≡ old.disk

pub record IsHandIn {D : Type 0} (worker : Worker) (place : ℕ) (old : WorldView D) (answer : Reply)
    (new : WorldView D) : Type 0 where
  pub hands : HandsInIfAny worker place old.core old.kept answer new.core new.kept
  pub disk : new.disk ≡ old.disk

pub record IsPerform {D : Type 0} (g : Ghosts D) (worker : Worker) (place : ℕ) (old : WorldView D) (answer : Reply)
    (new : WorldView D) : Type 0 where
  pub performs : Performs g worker place old.disk old.kept answer new.disk new.kept
  pub core : new.core ≡ old.core

abbrev pub Does : {D : Type 0} → Ghosts D → Event → WorldView D → Reply → WorldView D → Type 0
Does g (Command seat command) old answer new = IsCommand seat command old answer new
Does g (Begin rounds) old answer new = ChangesCoreAlone old new × IsBegun rounds answer old.core new.core
Does g (Work worker) old answer new = IsWork worker old answer new
Does g (TakeUp worker) old answer new = IsTakeUp worker old answer new
Does g (HandInAt worker place) old answer new = IsHandIn worker place old answer new
Does g (Perform worker) old answer new = IsPerform g worker 0 old answer new
Does g (PerformAt worker place) old answer new = IsPerform g worker place old answer new
Does g Merge old answer new = ChangesCoreAlone old new × IsMergeOrder answer old.core new.core
Does g Cancel old answer new = ChangesCoreAlone old new × IsCancelOrder answer old.core new.core
Does g Reopen old answer new = ChangesCoreAlone old new × IsReopenOrder answer old.core new.core
Does g Trim old answer new = IsTrim old answer new

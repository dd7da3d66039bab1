-- What each call of a core does: all that it says of its call, by one name.
use Rattle.std.specs.Prelude.{◌≡◌, ◌≢◌, ◌↔◌, ◌+◌, ℕ, true, false, length, Some, None, IsSome, is_some, Result, Err}
use Rattle.std.specs.Prelude.{IfOk, ◌⊎◌}
use Rattle.sd_command.specs.declared.command.Command.{Command}
use Rattle.sd_command.specs.declared.refusal.Refusal.{Refusal}
use Rattle.sd_command.specs.declared.refusal.Refusal.TheVariants.{Idle, JournalFull, StoreDown}
use Rattle.sd_command.specs.declared.reply.Reply.{Reply}
use Rattle.sd_command.specs.declared.reply.Reply.TheVariants as reply
use Rattle.sd_gate.specs.declared.worker.Worker.{Worker}
use Rattle.sd_gate.specs.declared.worker.Worker.TheVariants.{Dumper, Merger, Opener}
use Rattle.sd_gate.specs.Calls.{is_done}
use Rattle.sd_gate.specs.Requests.{Made}
use Rattle.sd_journal.specs.History.{pending}
use Rattle.sd_opener.specs.Looking.{IsDoneAsAsked}
use Rattle.sd_rounds.specs.Dumper.{Running}
use Rattle.sd_rounds.specs.PassSteps.{NoPageIsNext}
use Rattle.sd_crash_safety.specs.Calls.{AddsByCancel, AddsByOrder, Applies, HandedIn, IsOut, Stays}
use Rattle.sd_crash_safety.specs.View.{CoreView, history_of}
use Rattle.sd_core.specs.declared.taken.Taken.{Taken}
use Rattle.sd_core.specs.declared.taken.Taken.TheVariants.{Step}
use Rattle.sd_core.specs.Answering.{IsAnswered}
use Rattle.sd_core.specs.Beginning.{BeginsAs, begin_refusal}
use Rattle.sd_core.specs.Beside.{HandsBeside, OrdersBeside, StepsBeside}
use Rattle.sd_core.specs.Entering.{EntersFirst}
use Rattle.sd_core.specs.Flags.{FlagsByBegin, FlagsByCancel, FlagsByOutcome, FlagsByStep, KeepsFlags}
use Rattle.sd_core.specs.Images.{IsAcked}
use Rattle.sd_core.specs.Kept.{KeepsImages}
use Rattle.sd_core.specs.Lasting.{FixesNoList, MergeLasts}
use Rattle.sd_core.specs.LittleWork.{IsLittleDump, IsLittlePreDump, OpensPreDump}
use Rattle.sd_core.specs.Merging.{EndsCut, EntersAsCopy, EntersAtRest, FixesItsList, IsMerged, ListsTheUnneeded}
use Rattle.sd_core.specs.Merging.{MergesAs, merge_refusal}
use Rattle.sd_core.specs.Next.{NextByBegin, NextByCancel, NextByCommand, NextByMerge, NextByOutcome}
use Rattle.sd_core.specs.Next.{NextByReopen, NextByWork}
use Rattle.sd_core.specs.Noted.{KeepsMarks}
use Rattle.sd_core.specs.Opening.{OpensBelieved, OpensOwn, RefusesAsScan, RefusesRightly}
use Rattle.sd_core.specs.Orders.{BeginsToOpen, IsCancelled}
use Rattle.sd_core.specs.Refusals.{cancel_refusal, is_idle, reopen_refusal, work_refusal}
use Rattle.sd_core.specs.Rounds.{OpensItsGate, SameRound, TurnsRound}
use Rattle.sd_core.specs.Starts.{TakesUp}
use Rattle.sd_core.specs.Working.{FindsSource, LeavesByOutcome, LeavesByWork}

-- a command of a seat
pub record IsApplied (seat : ℕ) (command : Command) (told : Result (ℕ × Reply) Refusal)
    (old new : CoreView) : Type 0 where
  pub step : NextByCommand seat command old told new
  pub applies : Applies seat command told old new
  pub number : IfOk told (λ t. t.0 ≡ old.base.folded + length (history_of old))
  pub full : told ≡ Err JournalFull ↔ length (history_of old) + old.held ≡ old.limit
  pub stands : new.standing ≡ old.standing
  pub job : new.dumper ≡ old.dumper
  pub merge : new.merger ≡ old.merger
  pub answered : IfOk told (λ t. IsAnswered (is_some (pending (history_of old))) command t.1 old.memory new.memory)
  pub keeps : Stays old new
  pub flags : KeepsFlags old new
  pub opening : new.opener ≡ old.opener
  pub marks : KeepsMarks old new
  pub images : KeepsImages old new

-- the order to begin a checkpoint of so many pre-dumps
pub record IsBegun (rounds : ℕ) (answer : Reply) (old new : CoreView) : Type 0 where
  pub step : NextByBegin rounds old answer new
  pub adds : AddsByOrder answer (history_of old) (history_of new)
  pub keeps : Stays old new
  pub refused : (why : Refusal) → begin_refusal old rounds ≡ Some why → (answer ≡ reply.Refused why) × (new ≡ old)
  pub begins : begin_refusal old rounds ≡ None → BeginsAs old rounds answer new
  pub flags : FlagsByBegin old answer new
  pub beside : OrdersBeside Dumper old new

-- the order to begin a merge
pub record IsMergeOrder (answer : Reply) (old new : CoreView) : Type 0 where
  pub step : NextByMerge old answer new
  pub adds : AddsByOrder answer (history_of old) (history_of new)
  pub keeps : Stays old new
  pub refused : (why : Refusal) → merge_refusal old ≡ Some why → (answer ≡ reply.Refused why) × (new ≡ old)
  pub merges : merge_refusal old ≡ None → MergesAs old answer new
  pub flags : KeepsFlags old new
  pub beside : OrdersBeside Merger old new

-- the order to cancel
pub record IsCancelOrder (answer : Reply) (old new : CoreView) : Type 0 where
  pub step : NextByCancel old answer new
  pub adds : AddsByCancel answer (history_of old) (history_of new)
  pub keeps : Stays old new
  pub refused : (why : Refusal) → cancel_refusal old ≡ Some why → (answer ≡ reply.Refused why) × (new ≡ old)
  pub cancelled : cancel_refusal old ≡ None → IsCancelled old answer new
  pub flags : FlagsByCancel old answer new
  pub beside : OrdersBeside Dumper old new

-- the order to open the store again
pub record IsReopenOrder (answer : Reply) (old new : CoreView) : Type 0 where
  pub step : NextByReopen old answer new
  pub adds : AddsByOrder answer (history_of old) (history_of new)
  pub keeps : Stays old new
  pub refused : (why : Refusal) → reopen_refusal old ≡ Some why → (answer ≡ reply.Refused why) × (new ≡ old)
  pub begun : reopen_refusal old ≡ None → BeginsToOpen old answer new
  pub flags : KeepsFlags old new
  pub beside : OrdersBeside Opener old new

-- a worker's next step, or its next device call
pub record IsTakenUp (worker : Worker) (old : CoreView) (made : Taken) (new : CoreView) : Type 0 where
  pub step : NextByWork worker old made new
  pub takes : TakesUp old worker made new
  pub refused : (why : Refusal) → work_refusal old worker ≡ Some why → (made ≡ Step (reply.Refused why)) × (new ≡ old)
  pub leaves : work_refusal old worker ≡ None → LeavesByWork old worker made new
  pub lasts : MergeLasts old new
  pub fixes : FixesNoList old new
  pub finds : worker ≡ Merger → FindsSource old made
  pub rounds : worker ≡ Dumper → SameRound old.dumper.running new.dumper.running
  pub flags : FlagsByStep old worker made new
  pub beside : StepsBeside worker old made new
  pub refuses : worker ≡ Opener → RefusesRightly old made
  pub scans : worker ≡ Opener → RefusesAsScan old made
  pub opens : worker ≡ Opener → OpensBelieved old made
  pub shows : worker ≡ Opener → OpensOwn old made

-- the dumper's next step isn't one of a pass: it is refused, or it visits no page and copies no sector
abbrev pub HasNoPassStep : CoreView → Type 0
HasNoPassStep core = IsSome (work_refusal core Dumper) ⊎ NoPageIsNext core.dumper.running core.memory

-- the outcome of a device call
pub record IsHandedIn (made : Made) (answer : Reply) (old new : CoreView) : Type 0 where
  pub step : NextByOutcome old made answer new
  pub strange : (IsOut old made.request.id → ⊥) → (answer ≡ reply.Refused Idle) × (new ≡ old)
  pub handed : (out : IsOut old made.request.id) → HandedIn old out.lane made answer new
  pub failed : IsOut old made.request.id → is_done made.answer ≡ false → answer ≡ reply.Refused StoreDown
  pub down : IsOut old made.request.id → made.request.id.worker ≢ Opener → is_idle old made.request.id.worker ≡ false
      → answer ≡ reply.Refused StoreDown → is_done made.answer ≡ false
  pub late : IsOut old made.request.id → is_idle old made.request.id.worker ≡ true → answer ≡ reply.Refused StoreDown
  -- one of the opener that is done as it was asked for never ends it
  pub goes_on : IsOut old made.request.id → made.request.id.worker ≡ Opener → IsDoneAsAsked made → answer ≡ reply.Worked
  pub leaves : IsOut old made.request.id → LeavesByOutcome old made.request.id.worker answer new
  pub lasts : MergeLasts old new
  pub acked : (n : ℕ) → IsOut old made.request.id → answer ≡ reply.Acked n → IsAcked n old new
  pub little : (n : ℕ) → IsOut old made.request.id → answer ≡ reply.Acked n → IsLittleDump n old new
  pub round : IsOut old made.request.id → made.request.id.worker ≡ Dumper → (running : Running)
      → OpensPreDump running old new
      → IsLittlePreDump running old new
  pub rounds : IsOut old made.request.id → made.request.id.worker ≡ Dumper
      → TurnsRound old.dumper.running new.dumper.running new.catalog
  -- by the outcome with which an image of the checkpoint enters the catalog
  pub gates : (out : IsOut old made.request.id) → made.request.id.worker ≡ Dumper
      → OpensItsGate old out.lane made.request answer new
  pub merged : (serial : ℕ) → IsOut old made.request.id → answer ≡ reply.Merged serial → IsMerged serial old new
  -- by the outcome with which the merged image enters the catalog
  pub opens : IsOut old made.request.id → made.request.id.worker ≡ Merger → EntersFirst old answer new
  pub lists : IsOut old made.request.id → made.request.id.worker ≡ Merger → FixesItsList old new
  pub retires : IsOut old made.request.id → made.request.id.worker ≡ Merger → ListsTheUnneeded old made.request new
  pub copies : IsOut old made.request.id → made.request.id.worker ≡ Merger → EntersAsCopy old made.request new
  pub rests : IsOut old made.request.id → made.request.id.worker ≡ Merger → EntersAtRest old made.request new
  pub cuts : (serial : ℕ) → IsOut old made.request.id → answer ≡ reply.Merged serial → EndsCut old made.request new
  pub flags : FlagsByOutcome old answer new
  pub beside : IsOut old made.request.id → HandsBeside made old new

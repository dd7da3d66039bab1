-- What is said of a command and of an order, by its step.
use Rattle.std.proofs.Common.{◌≡◌, ◌↔◌, ◌+◌, ℕ, length, is_some, Some, None, Result, Err, IfOk, arith}
use Rattle.sd_command.specs.declared.command.Command.{Command}
use Rattle.sd_command.specs.declared.refusal.Refusal.{Refusal}
use Rattle.sd_command.specs.declared.refusal.Refusal.TheVariants.{JournalFull}
use Rattle.sd_command.specs.declared.reply.Reply.{Reply}
use Rattle.sd_command.specs.declared.reply.Reply.TheVariants as reply
use Rattle.sd_gate.specs.declared.worker.Worker.TheVariants.{Dumper, Merger, Opener}
use Rattle.sd_journal.specs.History.{pending}
use Rattle.sd_crash_safety.specs.Calls.{AddsByCancel, AddsByOrder, Applies}
use Rattle.sd_crash_safety.specs.CheckpointSteps.{BeginningIsBelieved, CancellingIsBelieved}
use Rattle.sd_crash_safety.specs.CoreSteps.{CoreSteps}
use Rattle.sd_crash_safety.specs.MergerSteps.{MergeBeginningIsBelieved}
use Rattle.sd_crash_safety.specs.OpenerSteps.{OpenerSteps}
use Rattle.sd_crash_safety.specs.View.{CoreView, history_of}
use Rattle.sd_free_slots.specs.Taken.{FreeSlotsLaw}
use Rattle.sd_core.specs.Answering.{IsAnswered}
use Rattle.sd_core.specs.Beginning.{begin_refusal}
use Rattle.sd_core.specs.Beside.{OrdersBeside}
use Rattle.sd_core.specs.Called.{IsApplied, IsBegun, IsCancelOrder, IsMergeOrder, IsReopenOrder}
use Rattle.sd_core.specs.Flags.{FlagsByBegin, FlagsByCancel, KeepsFlags}
use Rattle.sd_core.specs.Kept.{KeepsImages}
use Rattle.sd_core.specs.Merging.{MergesAs, merge_refusal}
use Rattle.sd_core.specs.Next.{NextByBegin, NextByCancel, NextByCommand, NextByMerge, NextByReopen}
use Rattle.sd_core.specs.Noted.{KeepsMarks}
use Rattle.sd_core.specs.Orders.{BeginsToOpen, IsCancelled}
use Rattle.sd_core.specs.Refusals.{cancel_refusal, reopen_refusal}
use Rattle.sd_core.specs.SoundView.{IsSoundView}
use Rattle.sd_core.proofs.NextSound.{begin_as, begin_keeps}
use Rattle.sd_core.proofs.OrdersKeep.{cancel_keeps, command_keeps, merge_keeps, reopen_keeps}

-- ---- a command

module _ (seat : ℕ) (command : Command) (told : Result (ℕ × Reply) Refusal) (old new : CoreView) (step : NextByCommand seat command old told new) where
  it_applies : Applies seat command told old new
  it_applies = grind arith

  its_number : IfOk told (λ t. t.0 ≡ old.base.folded + length (history_of old))
  its_number = grind arith

  is_full : told ≡ Err JournalFull ↔ length (history_of old) + old.held ≡ old.limit
  is_full = grind arith

  it_stands : new.standing ≡ old.standing
  it_stands = grind arith

  its_job : new.dumper ≡ old.dumper
  its_job = grind arith

  its_merge : new.merger ≡ old.merger
  its_merge = grind arith

  its_answer : IfOk told (λ t. IsAnswered (is_some (pending (history_of old))) command t.1 old.memory new.memory)
  its_answer = grind arith

  its_flags : KeepsFlags old new
  its_flags = grind arith

  its_opener : new.opener ≡ old.opener
  its_opener = grind arith

  its_marks : KeepsMarks old new
  its_marks = grind arith

  its_images : KeepsImages old new
  its_images = grind arith

pub command_is : CoreSteps → (seat : ℕ) (command : Command) (told : Result (ℕ × Reply) Refusal) (old new : CoreView) → IsSoundView old → NextByCommand seat command old told new
    → IsApplied seat command told old new
command_is steps seat command told old new sound step = record {
  step = step;
  applies = it_applies seat command told old new step;
  number = its_number seat command told old new step;
  full = is_full seat command told old new step;
  stands = it_stands seat command told old new step;
  job = its_job seat command told old new step;
  merge = its_merge seat command told old new step;
  answered = its_answer seat command told old new step;
  keeps = command_keeps steps old sound seat command told new step;
  flags = its_flags seat command told old new step;
  opening = its_opener seat command told old new step;
  marks = its_marks seat command told old new step;
  images = its_images seat command told old new step;
}

-- ---- the order to begin

begin_adds : (rounds : ℕ) (old : CoreView) (answer : Reply) (new : CoreView) → NextByBegin rounds old answer new → AddsByOrder answer (history_of old) (history_of new)
begin_adds rounds old answer new step = grind arith

begin_refused : (rounds : ℕ) (old : CoreView) (answer : Reply) (new : CoreView) → NextByBegin rounds old answer new → (why : Refusal) → begin_refusal old rounds ≡ Some why
    → (answer ≡ reply.Refused why) × (new ≡ old)
begin_refused rounds old answer new step why is = grind arith

begin_flags : (rounds : ℕ) (old : CoreView) (answer : Reply) (new : CoreView) → NextByBegin rounds old answer new → FlagsByBegin old answer new
begin_flags rounds old answer new step = grind arith

begin_beside : (rounds : ℕ) (old : CoreView) (answer : Reply) (new : CoreView) → NextByBegin rounds old answer new → OrdersBeside Dumper old new
begin_beside rounds old answer new step = grind arith

pub begin_is : CoreSteps → FreeSlotsLaw → (rounds : ℕ) (old : CoreView) (answer : Reply) (new : CoreView) → IsSoundView old → BeginningIsBelieved old.catalog → NextByBegin rounds old answer new
    → IsBegun rounds answer old new
begin_is steps free rounds old answer new sound law step = record {
  step = step;
  adds = begin_adds rounds old answer new step;
  keeps = begin_keeps free steps old sound law rounds answer new step;
  refused = begin_refused rounds old answer new step;
  begins = begin_as old sound rounds answer new step;
  flags = begin_flags rounds old answer new step;
  beside = begin_beside rounds old answer new step;
}

-- ---- the order to merge

module _ (old : CoreView) (answer : Reply) (new : CoreView) (step : NextByMerge old answer new) where
  merge_adds : AddsByOrder answer (history_of old) (history_of new)
  merge_adds = grind arith

  merge_refused : (why : Refusal) → merge_refusal old ≡ Some why → (answer ≡ reply.Refused why) × (new ≡ old)
  merge_refused why is = grind arith

  merges_as : merge_refusal old ≡ None → MergesAs old answer new
  merges_as none = grind arith

  merge_flags : KeepsFlags old new
  merge_flags = grind arith

  merge_beside : OrdersBeside Merger old new
  merge_beside = grind arith

pub merge_is : CoreSteps → FreeSlotsLaw → (old : CoreView) (answer : Reply) (new : CoreView) → IsSoundView old → MergeBeginningIsBelieved old.catalog → NextByMerge old answer new
    → IsMergeOrder answer old new
merge_is steps free old answer new sound law step = record {
  step = step;
  adds = merge_adds old answer new step;
  keeps = merge_keeps free steps old sound law answer new step;
  refused = merge_refused old answer new step;
  merges = merges_as old answer new step;
  flags = merge_flags old answer new step;
  beside = merge_beside old answer new step;
}

-- ---- the order to cancel

module _ (old : CoreView) (answer : Reply) (new : CoreView) (step : NextByCancel old answer new) where
  cancel_adds : AddsByCancel answer (history_of old) (history_of new)
  cancel_adds = grind arith

  cancel_refused : (why : Refusal) → cancel_refusal old ≡ Some why → (answer ≡ reply.Refused why) × (new ≡ old)
  cancel_refused why is = grind arith

  cancels_it : cancel_refusal old ≡ None → IsCancelled old answer new
  cancels_it none = grind arith

  cancel_flags : FlagsByCancel old answer new
  cancel_flags = grind arith

  cancel_beside : OrdersBeside Dumper old new
  cancel_beside = grind arith

pub cancel_is : CoreSteps → CancellingIsBelieved → (old : CoreView) (answer : Reply) (new : CoreView) → IsSoundView old → NextByCancel old answer new → IsCancelOrder answer old new
cancel_is steps law old answer new sound step = record {
  step = step;
  adds = cancel_adds old answer new step;
  keeps = cancel_keeps law steps old sound answer new step;
  refused = cancel_refused old answer new step;
  cancelled = cancels_it old answer new step;
  flags = cancel_flags old answer new step;
  beside = cancel_beside old answer new step;
}

-- ---- the order to open again

module _ (old : CoreView) (answer : Reply) (new : CoreView) (step : NextByReopen old answer new) where
  reopen_adds : AddsByOrder answer (history_of old) (history_of new)
  reopen_adds = grind arith

  reopen_refused : (why : Refusal) → reopen_refusal old ≡ Some why → (answer ≡ reply.Refused why) × (new ≡ old)
  reopen_refused why is = grind arith

  begins_to_open : reopen_refusal old ≡ None → BeginsToOpen old answer new
  begins_to_open none = grind arith

  reopen_flags : KeepsFlags old new
  reopen_flags = grind arith

  reopen_beside : OrdersBeside Opener old new
  reopen_beside = grind arith

pub reopen_is : CoreSteps → OpenerSteps → (old : CoreView) (answer : Reply) (new : CoreView) → IsSoundView old → NextByReopen old answer new → IsReopenOrder answer old new
reopen_is steps laws old answer new sound step = record {
  step = step;
  adds = reopen_adds old answer new step;
  keeps = reopen_keeps laws steps old sound answer new step;
  refused = reopen_refused old answer new step;
  begun = begins_to_open old answer new step;
  flags = reopen_flags old answer new step;
  beside = reopen_beside old answer new step;
}

-- A worker's event lowers what is left of its job, unless it ends it or is refused.
use Rattle.std.proofs.Common.{◌≡◌, ℕ, Option, Some, None, sym, subst, arith}
use Rattle.sd_command.specs.declared.refusal.Refusal.{Refusal}
use Rattle.sd_command.specs.declared.refusal.Refusal.TheVariants.{Idle}
use Rattle.sd_command.specs.declared.reply.Reply.{Reply}
use Rattle.sd_command.specs.declared.reply.Reply.TheVariants as reply
use Rattle.sd_disk.specs.declared.disk.Disk.{Ghosts}
use Rattle.sd_gate.specs.declared.worker.Worker.{Worker}
use Rattle.sd_gate.specs.Requests.{Asked}
use Rattle.sd_crash_safety.specs.View.{CoreView}
use Rattle.sd_core.specs.declared.taken.Taken.TheVariants.{Step as StepTaken, Call as CallTaken}
use Rattle.sd_core.specs.Called.{IsTakenUp}
use Rattle.sd_core.specs.Refusals.{work_refusal}
use Rattle.sd_core.specs.Working.{LeavesByOutcome, LeavesByStep, left_by}
use Rattle.sd_world.specs.Consistent.{IsWorld}
use Rattle.sd_world.specs.Steps.{HandsInAt, HandsInIfAny, IsHandIn, IsTakeUp, IsWork, LeavesLess, WorkerTakesUp, WorkerWorks}
use Rattle.sd_world.specs.View.{WorldView}
use Rattle.sd_world.proofs.AddsLemmas.{is_out}
use Rattle.sd_world.proofs.KeptLemmas.{whose}

by_step : (old : CoreView) (worker : Worker) (answer : Reply) (new : CoreView) → LeavesByStep old worker answer new → LeavesLess answer (left_by old worker) (left_by new worker)
by_step old worker answer new leaves = grind arith

by_outcome : (old : CoreView) (worker : Worker) (answer : Reply) (new : CoreView) → LeavesByOutcome old worker answer new
    → LeavesLess answer (left_by old worker) (left_by new worker)
by_outcome old worker answer new leaves = grind arith

refused : (old : CoreView) (worker : Worker) (answer : Reply) (new : CoreView) (why : Refusal) → answer ≡ reply.Refused why
    → LeavesLess answer (left_by old worker) (left_by new worker)
refused old worker answer new why is = subst (λ a. LeavesLess a (left_by old worker) (left_by new worker)) (sym is) tt

step_lowers : (old : CoreView) (worker : Worker) (answer : Reply) (new : CoreView) (why : Option Refusal) → work_refusal old worker ≡ why
    → IsTakenUp worker old (StepTaken answer) new → LeavesLess answer (left_by old worker) (left_by new worker)
step_lowers old worker answer new None is job = by_step old worker answer new (job.leaves is)
step_lowers old worker answer new (Some why) is job = refused old worker answer new why (same ((job.refused why is).0))
  where
    same : StepTaken answer ≡ StepTaken (reply.Refused why) → answer ≡ reply.Refused why
    same e = cc

call_lowers : (old : CoreView) (worker : Worker) (request : Asked) (answer : Reply) (new : CoreView) (why : Option Refusal) → work_refusal old worker ≡ why
    → IsTakenUp worker old (CallTaken request) new → answer ≡ reply.Worked → LeavesLess answer (left_by old worker) (left_by new worker)
call_lowers old worker request answer new why is job worked = grind arith

module _ {D : Type 0} (g : Ghosts D) (old new : WorldView D) (world : IsWorld g old) where
  taken_lowers : (worker : Worker) (answer : Reply) → WorkerTakesUp worker old.core old.kept answer new.core new.kept
      → LeavesLess answer (left_by old.core worker) (left_by new.core worker)
  taken_lowers worker answer given = grind arith

  handed_lowers : (worker : Worker) (place : ℕ) (answer : Reply) → HandsInAt worker place old.core old.kept answer new.core new.kept
      → LeavesLess answer (left_by old.core worker) (left_by new.core worker)
  handed_lowers worker place answer hands = by_outcome old.core worker answer new.core
      (subst (λ w. LeavesByOutcome old.core w answer new.core) (whose old.kept worker place hands.lane hands.made hands.at hands.is) (hands.hands.does.leaves (is_out g old new world hands.lane hands.made hands.is)))

  works_lowers : (worker : Worker) (answer : Reply) → WorkerWorks worker old.core old.kept answer new.core new.kept
      → LeavesLess answer (left_by old.core worker) (left_by new.core worker)
  works_lowers worker answer (WorkerWorks.hands_in hands) = handed_lowers worker 0 answer hands
  works_lowers worker answer (WorkerWorks.takes_up none takes) = taken_lowers worker answer takes

  pub work_lowers : (worker : Worker) (answer : Reply) → IsWork worker old answer new → LeavesLess answer (left_by old.core worker) (left_by new.core worker)
  work_lowers worker answer work = works_lowers worker answer work.works

  pub take_up_lowers : (worker : Worker) (answer : Reply) → IsTakeUp worker old answer new → LeavesLess answer (left_by old.core worker) (left_by new.core worker)
  take_up_lowers worker answer it = taken_lowers worker answer it.takes

  hand_in_lowers_by : (worker : Worker) (place : ℕ) (answer : Reply) → HandsInIfAny worker place old.core old.kept answer new.core new.kept
      → LeavesLess answer (left_by old.core worker) (left_by new.core worker)
  hand_in_lowers_by worker place answer (HandsInIfAny.hands_in hands) = handed_lowers worker place answer hands
  hand_in_lowers_by worker place answer (HandsInIfAny.none none idle) = refused old.core worker answer new.core Idle idle.refused

  pub hand_in_lowers : (worker : Worker) (place : ℕ) (answer : Reply) → IsHandIn worker place old answer new
      → LeavesLess answer (left_by old.core worker) (left_by new.core worker)
  hand_in_lowers worker place answer it = hand_in_lowers_by worker place answer it.hands

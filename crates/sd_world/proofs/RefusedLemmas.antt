-- Why the next step of a job is refused.
use Rattle.std.proofs.Common.{◌≡◌, ◌≢◌, ℕ, false, List, map, Some, None, slice_get, suc, refl, sym, ◌∙◌, ap, subst, arith}
use Rattle.std.proofs.lemmas.Bool.{false≢true}
use Rattle.std.proofs.lemmas.Option.{same_Some}
use Rattle.sd_command.specs.declared.refusal.Refusal.{Refusal}
use Rattle.sd_command.specs.declared.refusal.Refusal.TheVariants.{Damaged, StoreDown}
use Rattle.sd_command.specs.declared.reply.Reply.{Reply}
use Rattle.sd_command.specs.declared.reply.Reply.TheVariants as reply
use Rattle.sd_disk.specs.declared.disk.Disk.{Ghosts}
use Rattle.sd_gate.specs.declared.request_id.RequestId.{RequestId}
use Rattle.sd_gate.specs.declared.worker.Worker.{Worker}
use Rattle.sd_gate.specs.declared.worker.Worker.TheVariants.{Merger, Opener}
use Rattle.sd_crash_safety.specs.View.{CoreView, index}
use Rattle.sd_core.specs.declared.taken.Taken.TheVariants.{Step as StepTaken}
use Rattle.sd_core.specs.GoingOn.{CanGoOn, HasNoneOut, OpenerAsksAlone}
use Rattle.sd_core.specs.Refusals.{is_idle}
use Rattle.sd_core.specs.Working.{LeavesByOutcome, LeavesByStep}
use Rattle.sd_world.specs.declared.call_state.CallState.TheVariants as its
use Rattle.sd_world.specs.declared.kept.Kept.{Kept}
use Rattle.sd_world.specs.declared.kept.Kept.TheVariants.{Nothing, Request, Outcome}
use Rattle.sd_world.specs.Consistent.{IsConsistent, IsWorld}
use Rattle.sd_world.specs.Refused.{MayBeRefused}
use Rattle.sd_world.specs.Steps.{HandsInAt, IsWork, WorkerTakesUp, WorkerWorks}
use Rattle.sd_world.specs.View.{IsNowhere, WorldView, asked_id, asked_of, is_asked, is_of_worker, kept_id}
use Rattle.sd_world.proofs.AddsLemmas.{is_out}
use Rattle.sd_world.proofs.FirstLemmas.{any_at, first_at, same_number}
use Rattle.sd_world.proofs.KeptLemmas.{whose}
use Rattle.sd_world.proofs.Lists.{map_get}
use Rattle.sd_world.proofs.RestingLemmas.{left}

-- an outcome is refused only since the store is down
outcome_refused : (old : CoreView) (worker : Worker) (why : Refusal) (new : CoreView) → LeavesByOutcome old worker (reply.Refused why) new → why ≡ StoreDown
outcome_refused old worker why new leaves = grind arith

-- and a step for lack of memory
step_refused : (kept : List Kept) (old : CoreView) (worker : Worker) (why : Refusal) (new : CoreView) → LeavesByStep old worker (reply.Refused why) new
    → (worker ≡ Merger → why ≢ Damaged) → (worker ≡ Opener → why ≢ Damaged) → MayBeRefused kept worker why
step_refused kept old worker why new leaves found opens = grind arith

-- a worker of which no call waits, and no outcome is kept, has none out
none_out : (kept : List Kept) (worker : Worker) → is_asked kept worker ≡ false → IsNowhere kept its.Made worker 0 → HasNoneOut (map kept_id kept) worker
none_out kept worker unasked none lane id at own = by there.0 there.1 there.2
  where
    there : (k : Kept) × (slice_get kept lane ≡ Some k) × (kept_id k ≡ Some id)
    there = map_get kept_id kept lane (Some id) at

    by : (k : Kept) → slice_get kept lane ≡ Some k → kept_id k ≡ Some id → ⊥
    by Nothing is has = (let no : None ≡ Some id = has in cc)
    by (Request request) is has =
        let its_own : request.id.worker ≡ worker = ap (λ (i : RequestId). i.worker) (same_Some request.id id has) ∙ own in
        false≢true (sym unasked ∙ any_at (λ k. is_of_worker worker (asked_id k)) kept lane (Request request) is
        (ap (λ w. is_of_worker worker (Some (record request.id { worker = w }))) its_own ∙ same_number (index worker)))
    by (Outcome made) is has =
        let its_own : made.request.id.worker ≡ worker = ap (λ (i : RequestId). i.worker) (same_Some made.request.id id has) ∙ own in
        let first = first_at (suc made.request.id.ticket) kept its.Made worker lane (Outcome made) made.request.id is refl its_own (omega arith) in
        none first.0 first.1

module _ {D : Type 0} (g : Ghosts D) (old new : WorldView D) (world : IsWorld g old) (can : CanGoOn old.core) (alone : OpenerAsksAlone old.core)
    (as_read : g.may_leave old.disk (g.contents old.disk)) (worker : Worker) (answer : Reply) (why : Refusal)
    (busy : is_idle old.core worker ≡ false) (is : answer ≡ reply.Refused why) where
  handed_refused : HandsInAt worker 0 old.core old.kept answer new.core new.kept → MayBeRefused old.kept worker why
  handed_refused hands = grind (arith, whose, is_out, outcome_refused)

  -- beside an opener that has none out nobody has
  nobody_out : is_asked old.kept worker ≡ false → IsNowhere old.kept its.Made worker 0 → worker ≡ Opener
      → (lane : ℕ) (id : RequestId) → slice_get old.core.outs lane ≡ Some (Some id) → ⊥
  nobody_out unasked none opener lane id at = grind (arith, none_out)

  taken_refused : is_asked old.kept worker ≡ false → IsNowhere old.kept its.Made worker 0 → IsConsistent g old
      → WorkerTakesUp worker old.core old.kept answer new.core new.kept → MayBeRefused old.kept worker why
  taken_refused unasked none was (WorkerTakesUp.step taken later) =
      let free = can worker busy (subst (λ outs. HasNoneOut outs worker) (sym world.outs) (none_out old.kept worker unasked none)) in
      step_refused old.kept old.core worker why new.core (subst (λ a. LeavesByStep old.core worker a new.core) is (taken.leaves free))
      (λ merger damaged. taken.finds merger (map asked_of old.kept) was.bodies (g.contents old.disk) was.believes (ap StepTaken (is ∙ ap reply.Refused damaged)))
      (λ opener damaged. taken.opens opener (map asked_of old.kept) was.bodies (g.contents old.disk) was.believes
      (left g old.disk old.core old.kept (nobody_out unasked none opener) world was as_read) (ap StepTaken (is ∙ ap reply.Refused damaged)))
  taken_refused unasked none was (WorkerTakesUp.call request taken later worked) = absurd (let no : reply.Worked ≡ reply.Refused why = sym worked ∙ is in cc)

  works_refused : is_asked old.kept worker ≡ false → IsConsistent g old → WorkerWorks worker old.core old.kept answer new.core new.kept → MayBeRefused old.kept worker why
  works_refused unasked was (WorkerWorks.hands_in hands) = handed_refused hands
  works_refused unasked was (WorkerWorks.takes_up none takes) = taken_refused unasked none was takes

  pub job_refused : is_asked old.kept worker ≡ false → g.is_honest old.disk → IsWork worker old answer new → MayBeRefused old.kept worker why
  job_refused unasked honest work = works_refused unasked (world.consistent honest) work.works

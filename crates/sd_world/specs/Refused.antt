-- Why the next step of a job may be refused.
use Rattle.std.specs.Prelude.{◌≡◌, ◌≢◌, ℕ, false, List, Some, slice_get}
use Rattle.sd_command.specs.declared.refusal.Refusal.{Refusal}
use Rattle.sd_command.specs.declared.refusal.Refusal.TheVariants.{OutOfMemory, StoreDown}
use Rattle.sd_command.specs.declared.reply.Reply.{Reply}
use Rattle.sd_command.specs.declared.reply.Reply.TheVariants as reply
use Rattle.sd_gate.specs.declared.worker.Worker.{Worker}
use Rattle.sd_gate.specs.declared.worker.Worker.TheVariants.{Opener}
use Rattle.sd_gate.specs.Calls.{is_done}
use Rattle.sd_gate.specs.Requests.{Made}
use Rattle.sd_opener.specs.Looking.{IsDoneAsAsked}
use Rattle.sd_world.specs.declared.call_state.CallState.TheVariants as its
use Rattle.sd_core.specs.Refusals.{is_idle}
use Rattle.sd_world.specs.declared.event.Event.{Event}
use Rattle.sd_world.specs.declared.event.Event.TheVariants.{Work}
use Rattle.sd_world.specs.declared.kept.Kept.{Kept}
use Rattle.sd_world.specs.declared.kept.Kept.TheVariants.{Outcome}
use Rattle.sd_world.specs.View.{IsAt, WorldView, is_asked}

-- The worker's first outcome that is kept is that of a call that failed; of the opener, of one that isn't done as it
-- was asked for.
pub record HasFailed (kept : List Kept) (worker : Worker) : Type 0 where
  pub lane : ℕ
  pub at : IsAt kept its.Made worker 0 lane
  pub made : Made
  pub is : slice_get kept lane ≡ Some (Outcome made)
  pub failed : worker ≢ Opener → is_done made.answer ≡ false
  pub unlike : worker ≡ Opener → IsDoneAsAsked made → ⊥

-- memory is wanting, or a device call has failed
abbrev pub MayBeRefused : List Kept → Worker → Refusal → Type 0
MayBeRefused kept worker OutOfMemory = Unit {0}
MayBeRefused kept worker StoreDown = HasFailed kept worker
MayBeRefused kept worker _ = ⊥

-- While a worker's job runs, and no device call of it waits, its next step is refused for nothing else.
abbrev pub GoesOnUnless : {D : Type 0} → Event → WorldView D → Reply → Type 0
GoesOnUnless event old answer = (worker : Worker) (why : Refusal) → event ≡ Work worker
    → is_asked old.kept worker ≡ false → is_idle old.core worker ≡ false
    → answer ≡ reply.Refused why → MayBeRefused old.kept worker why

-- What an outcome that is handed in changes at once.
use Rattle.std.specs.Prelude.{◌≡◌, Bool, List, length, Some, slice_get}
use Rattle.sd_gate.specs.declared.phase.Phase.{Phase}
use Rattle.sd_gate.specs.Calls.{is_done}
use Rattle.sd_gate.specs.Phases.{phases_after}
use Rattle.sd_gate.specs.Requests.{Made}
use Rattle.sd_crash_safety.specs.DumperOutcomes.{closes_for_sure}

-- the phases of the slots follow the call of an outcome, which closes its slot for sure or doesn't
pub record FollowsOutcome (old : List Phase) (made : Made) (new : List Phase) (closed : Bool) : Type 0 where
  pub phase : Phase
  pub is : slice_get old made.request.id.slot ≡ Some phase
  pub count : length new ≡ length old
  pub phases : new ≡ phases_after old made.request.id phase (is_done made.answer)
  pub closes : closed ≡ closes_for_sure phase made.request.id.call

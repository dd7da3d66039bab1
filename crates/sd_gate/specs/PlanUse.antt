-- What a worker does with a plan that only changes its slot.
use Rattle.std.specs.Prelude.{◌≡◌, ◌≢◌, ℕ, ◌+◌, ◌*◌, true, false, [], length, None}
use Rattle.sd_gate.specs.declared.settled.Settled.{Settled}
use Rattle.sd_gate.specs.declared.settled.Settled.TheVariants.{More, Finished, Failed, Strange}
use Rattle.sd_gate.specs.declared.worker.Worker.{Worker}
use Rattle.sd_gate.specs.Calls.{is_done}
use Rattle.sd_gate.specs.Inspections.{nothing}
use Rattle.sd_gate.specs.PlanRuns.{AreChanges}
use Rattle.sd_gate.specs.Plans.{Planned, is_one, plan_after}
use Rattle.sd_gate.specs.Requests.{Asked, Made}

-- calls of the plan are left or out, and they only change the slot
pub record IsUnderWay (plan : Planned) : Type 0 where
  pub known : plan.awaits ≡ nothing
  pub changes : AreChanges plan.calls
  pub some : plan.out ≡ None → plan.calls ≢ []

-- the worker's, with its ticket
pub record IsAskedBy (asker : Worker) (number : ℕ) (request : Asked) : Type 0 where
  pub worker : request.id.worker ≡ asker
  pub ticket : request.id.ticket ≡ number

-- how many outcomes of a plan are still to be handed in
abbrev pub outcomes_of : Planned → ℕ
outcomes_of plan = length plan.calls + is_one plan.out

-- a request and an outcome for each call that is left, and the outcome of the request that is out
abbrev pub plan_left : Planned → ℕ
plan_left plan = 2 * length plan.calls + is_one plan.out

-- what the outcome of the request that is out is to a plan
abbrev pub Settles : Planned → Made → Settled → Planned → Type 0
Settles old made More new = (is_done made.answer ≡ true) × (new ≡ plan_after old made) × (new.calls ≢ [])
    × IsUnderWay new × (outcomes_of new + 1 ≡ outcomes_of old)
Settles old made Finished new = (is_done made.answer ≡ true) × (new ≡ plan_after old made) × (new.calls ≡ [])
    × (outcomes_of new + 1 ≡ outcomes_of old)
Settles old made Failed new = is_done made.answer ≡ false
Settles old made Strange new = ⊥

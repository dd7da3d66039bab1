-- Whose the lanes of a core are, and that a worker that has a job can go on.
use Rattle.std.specs.Prelude.{◌≡◌, ◌≢◌, ℕ, false, List, Option, Some, None, slice_get}
use Rattle.sd_gate.specs.declared.request_id.RequestId.{RequestId}
use Rattle.sd_gate.specs.declared.worker.Worker.{Worker}
use Rattle.sd_gate.specs.declared.worker.Worker.TheVariants.{Dumper, Merger, Opener}
use Rattle.sd_crash_safety.specs.declared.standing.Standing.TheVariants.{Open}
use Rattle.sd_crash_safety.specs.View.{CoreView}
use Rattle.sd_core.specs.Refusals.{is_idle, work_refusal}
use Rattle.sd_core.specs.Sound.{worker_of_lane}

-- a request that is out in a lane is of the worker whose lane that is
abbrev pub AreOwnLanes : List (Option RequestId) → Type 0
AreOwnLanes outs = (lane : ℕ) (id : RequestId) → slice_get outs lane ≡ Some (Some id) → id.worker ≡ worker_of_lane lane

-- no request of a worker is out
abbrev pub HasNoneOut : List (Option RequestId) → Worker → Type 0
HasNoneOut outs worker = (lane : ℕ) (id : RequestId) → slice_get outs lane ≡ Some (Some id) → id.worker ≢ worker

-- while an opener runs, no other worker's request is out
abbrev pub OpenerAsksAlone : CoreView → Type 0
OpenerAsksAlone core = is_idle core Opener ≡ false → (lane : ℕ) (id : RequestId)
    → slice_get core.outs lane ≡ Some (Some id) → id.worker ≡ Opener

-- a worker that has a job, and of which no request is out, isn't refused
abbrev pub CanGoOn : CoreView → Type 0
CanGoOn core =
    (worker : Worker) → is_idle core worker ≡ false → HasNoneOut core.outs worker → work_refusal core worker ≡ None

-- a checkpoint and a merge run in an open store alone, and the opener has no request out where it doesn't run
pub record HasItsJobs (core : CoreView) : Type 0 where
  pub checkpoint : is_idle core Dumper ≡ false → core.standing ≡ Open
  pub merge : is_idle core Merger ≡ false → core.standing ≡ Open
  pub opener : core.opener ≡ None → slice_get core.outs 2 ≡ Some None

use Rattle.std.proofs.Common.{ℕ, ◌<◌}
use Rattle.sd_world.specs.View.{IsAt}
use Rattle.sd_world.proofs.kept.lane_at.Given as goal

-- it is in none of the lanes so far
abbrev pub invariant-loop-lane : goal.invariant-loop-lane
invariant-loop-lane l = (lane : ℕ) → lane < l.lane → IsAt l.kept l.state l.worker l.place lane → ⊥

use Rattle.std.proofs.Common.{◌≡◌, ℕ, ◌<◌, Some, slice_get}
use Rattle.sd_gate.proofs.lanes.lane_of.Given as goal

-- it is in none of the lanes so far
abbrev pub invariant-loop-lane : goal.invariant-loop-lane
invariant-loop-lane g l = (k : ℕ) → k < l.lane → slice_get l.outs k ≡ Some (Some l.id) → ⊥

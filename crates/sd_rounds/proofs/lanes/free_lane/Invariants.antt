use Rattle.std.proofs.Common.{◌≡◌, ℕ, ◌<◌, Some, None, slice_get}
use Rattle.sd_rounds.proofs.lanes.free_lane.Given as goal

-- none of the lanes so far is free
abbrev pub invariant-loop-lane : goal.invariant-loop-lane
invariant-loop-lane l = (k : ℕ) → k < l.lane → slice_get l.writes k ≡ Some None → ⊥

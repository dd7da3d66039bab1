use Rattle.std.proofs.Common.{◌≡◌, ℕ, ◌<◌, ◌≤◌, Some, slice_get}
use Rattle.sd_rounds.proofs.checkpoint.Checkpoint.fills.Given as goal

-- no pre-dump from the next image on stands in the slot so far
abbrev pub invariant-loop-place : goal.invariant-loop-place
invariant-loop-place l = (k : ℕ) → l.self.opened ≤ k → k < l.place → slice_get l.self.pre_dumps.items k ≡ Some l.slot → ⊥

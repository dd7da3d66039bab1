use Rattle.std.proofs.Common.{◌≡◌, ◌≤◌, ◌-◌, ℕ, drop, length}
use Rattle.sd_diff.specs.Held.{held_at}
use Rattle.sd_diff.proofs.part.ended.Given as goal

-- no run so far has a page from that one on
abbrev pub invariant-loop-place : goal.invariant-loop-place
invariant-loop-place l = record {
  few : l.place ≤ length l.runs;
  same : (page : ℕ) → l.at ≤ page → held_at (drop l.place l.runs) page ≡ held_at l.runs page;
}

abbrev pub decreases-loop-place : goal.decreases-loop-place
decreases-loop-place l = length l.runs - l.place

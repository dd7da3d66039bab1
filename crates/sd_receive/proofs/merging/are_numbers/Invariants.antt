use Rattle.std.proofs.Common.{◌≡◌, ◌<◌, ℕ, slice_index_or}
use Rattle.sd_receive.proofs.merging.are_numbers.Given as goal

-- those so far are
abbrev pub invariant-loop-place : goal.invariant-loop-place
invariant-loop-place l = (k d : ℕ) → k < l.place → slice_index_or l.spaces k d ≡ slice_index_or l.others k d

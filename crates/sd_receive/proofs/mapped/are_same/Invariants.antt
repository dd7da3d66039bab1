use Rattle.std.proofs.Common.{◌≡◌, ◌<◌, ℕ, slice_index_or}
use Rattle.sd_receive.specs.declared.mapped.MappedPage.{MappedPage}
use Rattle.sd_receive.proofs.mapped.are_same.Given as goal

-- those so far are
abbrev pub invariant-loop-place : goal.invariant-loop-place
invariant-loop-place l = (k : ℕ) (d : MappedPage) → k < l.place → slice_index_or l.pages k d ≡ slice_index_or l.others k d

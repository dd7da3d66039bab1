use Rattle.std.proofs.Common.{◌≡◌, length}
use Rattle.sd_rounds.specs.Buffers.{AreSpare}
use Rattle.sd_rounds.proofs.page_buffers.PageBuffers.reserve.Given as goal

-- there is a buffer for each turn so far, each with room for a page
abbrev pub invariant-loop : goal.invariant-loop
invariant-loop l = (length l.spare.items ≡ l.counter) × AreSpare l.spare

use Rattle.std.proofs.Common.{take}
use Rattle.sd_receipts.specs.Noted.{Rises}
use Rattle.sd_receipts.proofs.rising.is_above_all.Given as goal

-- the number is above those of its seat so far
abbrev pub invariant-loop-earlier : goal.invariant-loop-earlier
invariant-loop-earlier l = Rises (take l.earlier-index l.before) l.receipt

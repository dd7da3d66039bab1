use Rattle.std.proofs.Common.{take}
use Rattle.sd_receipts.proofs.FaultLemmas.{Checked}
use Rattle.sd_receipts.proofs.checking.check_each.Given as goal

-- the receipts so far stand and rise, and the last number of each seat is noted
abbrev pub invariant-loop-place : goal.invariant-loop-place
invariant-loop-place l = Checked l.first l.entries (take l.place l.receipts) l.last

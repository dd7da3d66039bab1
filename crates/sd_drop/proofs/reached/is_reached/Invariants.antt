use Rattle.std.proofs.Common.{ℕ, suc, Option, Some, None, Bor}
use Rattle.sd_chain.specs.Catalog.{Opened}
use Rattle.sd_drop.proofs.ReachLemmas.{IsWalked}
use Rattle.sd_drop.proofs.reached.is_reached.Given as goal

abbrev pub invariant-loop-next : goal.invariant-loop-next
invariant-loop-next l = IsWalked l.fn.catalog l.fn.slot l.next

abbrev rank : Option (Bor Opened) → ℕ
rank None = 0
rank (Some i) = suc i.now.header.stands_for

abbrev pub decreases-loop-next : goal.decreases-loop-next
decreases-loop-next l = rank l.next

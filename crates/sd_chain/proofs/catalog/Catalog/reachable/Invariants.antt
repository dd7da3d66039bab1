use Rattle.std.proofs.Common.{ℕ, suc, Option, Some, None, Bor}
use Rattle.sd_chain.specs.Catalog.{Opened}
use Rattle.sd_chain.specs.Reaches.{ParentsFall}
use Rattle.sd_chain.proofs.Walks.{IsWalk, IsWayTo}
use Rattle.sd_chain.proofs.catalog.Catalog.reachable.Given as goal

abbrev pub invariant-loop-next : goal.invariant-loop-next
invariant-loop-next l = ParentsFall l.fn.self → IsWalk l.fn.self l.fn.serial l.reached.items l.next × IsWayTo l.fn.self l.fn.serial l.reached.items l.next

abbrev rank : Option (Bor Opened) → ℕ
rank None = 0
rank (Some i) = suc i.now.header.stands_for

abbrev pub decreases-loop-next : goal.decreases-loop-next
decreases-loop-next l = rank l.next

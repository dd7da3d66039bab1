use Rattle.std.proofs.Common.{ℕ, suc, Option, Some, None, Bor}
use Rattle.sd_chain.specs.Catalog.{Opened}
use Rattle.sd_chain.specs.Reaches.{ParentsFall}
use Rattle.sd_chain.proofs.Chains.{IsChainTo, opened_in}
use Rattle.sd_chain.proofs.catalog.Catalog.chain.Given as goal

abbrev pub invariant-loop-at : goal.invariant-loop-at
invariant-loop-at l = ParentsFall l.fn.self → IsChainTo l.fn.self l.fn.serial (opened_in l.images.items) l.at

abbrev rank : Option (Bor Opened) → ℕ
rank None = 0
rank (Some i) = suc i.now.header.stands_for

abbrev pub decreases-loop-at : goal.decreases-loop-at
decreases-loop-at l = rank l.at

use Rattle.std.proofs.Common.{ℕ, suc, Option, Some, None, Bor, map}
use Rattle.sd_chain.specs.Catalog.{Opened}
use Rattle.sd_send.proofs.WalkLemmas.{IsWalked}
use Rattle.sd_send.proofs.images.images_since.Given as goal

-- the images so far lead from the tip to the next one
abbrev pub invariant-loop-next : goal.invariant-loop-next
invariant-loop-next l = IsWalked l.fn.catalog l.fn.stop (map (λ i. i.now) l.found.items) l.next

abbrev rank : Option (Bor Opened) → ℕ
rank None = 0
rank (Some i) = suc i.now.header.stands_for

abbrev pub decreases-loop-next : goal.decreases-loop-next
decreases-loop-next l = rank l.next

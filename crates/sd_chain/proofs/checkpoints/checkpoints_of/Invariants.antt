use Rattle.std.proofs.Common.{ℕ, suc, Option, Some, None}
use Rattle.sd_chain.specs.Catalog.{images}
use Rattle.sd_chain.proofs.CheckpointLemmas.{IsListing}
use Rattle.sd_chain.proofs.checkpoints.checkpoints_of.Given as goal

abbrev pub invariant-loop-next : goal.invariant-loop-next
invariant-loop-next l = IsListing (images l.places.entries) l.numbers.items l.next

abbrev rank : Option ℕ → ℕ
rank None = 0
rank (Some n) = suc n

abbrev pub decreases-loop-next : goal.decreases-loop-next
decreases-loop-next l = rank l.next

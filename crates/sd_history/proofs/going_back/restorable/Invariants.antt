use Rattle.std.proofs.Common.{ℕ, List, take}
use Rattle.sd_chain.specs.Store.{IsCatalogOf}
use Rattle.sd_history.proofs.BackLemmas.{AreKept}
use Rattle.sd_history.proofs.going_back.restorable.Given as goal

abbrev pub invariant-loop-number : goal.invariant-loop-number
invariant-loop-number l = (contents : List (List ℕ)) → IsCatalogOf contents l.catalog → AreKept contents (take l.number-index l.number-items) l.kept.items

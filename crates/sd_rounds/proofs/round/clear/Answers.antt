use Rattle.std.proofs.Common.{arith}
use Rattle.sd_rounds.proofs.ClearLemmas.{clear_of_clean}
use Rattle.sd_rounds.proofs.round.clear.Goals as goal

pub returns-else-soft_dirty-clause-cleared : goal.returns-else-soft_dirty-clause-cleared
returns-else-soft_dirty-clause-cleared c = grind (arith, clear_of_clean)

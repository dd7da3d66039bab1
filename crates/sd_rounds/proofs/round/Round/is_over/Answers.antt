use Rattle.std.proofs.Common.{arith}
use Rattle.sd_rounds.proofs.WaitLemmas.{bool_flip, free_taking, over_is}
use Rattle.sd_rounds.proofs.round.Round.is_over.Goals as goal

pub returns-then-is_none : goal.returns-then-is_none
returns-then-is_none c = grind (arith, bool_flip, over_is, free_taking)

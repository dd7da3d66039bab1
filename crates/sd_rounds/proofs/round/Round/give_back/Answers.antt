use Rattle.std.proofs.Common.{arith}
use Rattle.sd_rounds.proofs.RoundLemmas.{other_round}
use Rattle.sd_rounds.proofs.round.Round.give_back.Goals as goal

pub invariant_of-self : goal.invariant_of-self
invariant_of-self c = grind (arith, other_round)

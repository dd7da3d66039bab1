use Rattle.sd_shared.proofs.TurnLemmas.{told_applied}
use Rattle.sd_shared.proofs.shared.Shared.call.Goals as goal

pub returns-clause-turn : goal.returns-clause-turn
returns-clause-turn g c = (_, _, told_applied _ _ _ _ _ _ c.receipt_of.ensures.told c.command-answered.ensures.turn)

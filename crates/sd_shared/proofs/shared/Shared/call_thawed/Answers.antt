use Rattle.std.proofs.Common.{rules}
use Rattle.sd_shared.proofs.TurnLemmas.{told_applied}
use Rattle.sd_shared.proofs.shared.Shared.call_thawed.Goals as goal

pub returns-clause-turn : goal.returns-clause-turn
returns-clause-turn g c =
    (c.deref_mut.result.now, _, search rules, told_applied _ _ _ _ _ _ c.receipt_of.ensures.told c.command-answered.ensures.turn)

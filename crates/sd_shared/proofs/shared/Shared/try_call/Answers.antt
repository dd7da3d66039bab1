use Rattle.std.proofs.Common.{inl}
use Rattle.sd_shared.proofs.TurnLemmas.{told_applied}
use Rattle.sd_shared.proofs.shared.Shared.try_call.Goals as goal

pub returns-in-Some-clause-turn : goal.returns-in-Some-clause-turn
returns-in-Some-clause-turn g c =
    inl (c.command-answered.ensures.once, (_, _, told_applied _ _ _ _ _ _ c.receipt_of.ensures.told c.command-answered.ensures.turn))

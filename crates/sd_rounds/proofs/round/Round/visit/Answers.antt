use Rattle.sd_rounds.proofs.RoundLemmas.{alive_at}
use Rattle.sd_rounds.proofs.round.Round.visit.Goals as goal

pub enter-requires-clause-least : goal.enter-requires-clause-least
enter-requires-clause-least c = let h = c.in-Some.ensures in (c.sound.ensures.spaces _ (alive_at c.args.memory.now.spaces _ _ h.0)).0

pub enter-requires-clause-greatest : goal.enter-requires-clause-greatest
enter-requires-clause-greatest c = let h = c.in-Some.ensures in (c.sound.ensures.spaces _ (alive_at c.args.memory.now.spaces _ _ h.0)).1

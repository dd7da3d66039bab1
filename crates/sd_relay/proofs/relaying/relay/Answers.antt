use Rattle.sd_relay.proofs.RuleLemmas.{begins}
use Rattle.sd_relay.proofs.relaying.relay.Goals as goal

pub bounded_with-requires-clause-rule : goal.bounded_with-requires-clause-rule
bounded_with-requires-clause-rule g c = begins

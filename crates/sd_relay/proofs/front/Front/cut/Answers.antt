use Rattle.sd_relay.proofs.RuleLemmas.{forks}
use Rattle.sd_relay.proofs.front.Front.cut.Goals as goal

pub another-requires-clause-rule : goal.another-requires-clause-rule
another-requires-clause-rule c = forks _ _ c.requires

use Rattle.std.proofs.Common.{arith}
use Rattle.sd_relay.proofs.RuleLemmas.{merges}
use Rattle.sd_relay.proofs.front.Front.absorb.Goals as goal

pub absorb-requires-clause-rule : goal.absorb-requires-clause-rule
absorb-requires-clause-rule c = merges _ _ _ _ (let part = c.requires.writer.0 in omega arith)

use Rattle.std.proofs.Common.{arith}
use Rattle.sd_relay.proofs.RuleLemmas.{takes}
use Rattle.sd_relay.proofs.crew.take.Goals as goal

pub recv_as-requires-clause-rule : goal.recv_as-requires-clause-rule
recv_as-requires-clause-rule g c = (takes _ _ (let part = c.requires.1.0 in omega arith), λ messages views rule at. tt)

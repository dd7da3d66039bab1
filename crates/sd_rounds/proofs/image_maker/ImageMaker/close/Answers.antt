use Rattle.std.proofs.Common.{arith}
use Rattle.sd_gate.proofs.UseLemmas.{body_under_way, gives_under_way}
use Rattle.sd_rounds.proofs.image_maker.ImageMaker.close.Goals as goal

pub ask-request-requires-clause-under_way : goal.ask-request-requires-clause-under_way
ask-request-requires-clause-under_way c = grind (arith, body_under_way)

pub invariant_of-self : goal.invariant_of-self
invariant_of-self c = grind (arith, gives_under_way, body_under_way)

pub returns-clause-table : goal.returns-clause-table
returns-clause-table c = grind arith

use Rattle.std.proofs.Common.{refl, arith}
use Rattle.sd_stream.proofs.TallyLemmas.{bytes_grow}
use Rattle.sd_stream.proofs.tally.Tally.bytes.Goals as goal

pub returns-clause-grows : goal.returns-clause-grows
returns-clause-grows c = λ p taken.
    bytes_grow c.args.self.now _ p c.args.bytes.now (omega arith) refl refl (λ m held. c.update.ensures m held) taken

use Rattle.std.proofs.Common.{ℕ, List, [], refl, subst}
use Rattle.sha2.specs.Hashers.{Holds256}
use Rattle.sd_stream.proofs.TallyLemmas.{starts}
use Rattle.sd_stream.proofs.tally.Tally.new.Goals as goal

pub returns-clause-taken : goal.returns-clause-taken
returns-clause-taken c = λ good.
    starts _ c.args.base.now (subst (λ (bytes : List ℕ). Holds256 c.update.new.self bytes) c.head_bytes.ensures.text (c.update.ensures [] c.new-hasher.ensures)) c.number_of.ensures refl refl good

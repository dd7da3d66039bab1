use Rattle.std.proofs.Common.{ℕ, List, ◌++◌, refl, subst}
use Rattle.sha2.specs.Hashers.{Holds256}
use Rattle.sd_stream.proofs.TallyLemmas.{image_grows}
use Rattle.sd_stream.proofs.tally.Tally.image.Goals as goal

pub returns-clause-grows : goal.returns-clause-grows
returns-clause-grows c = λ p taken.
    image_grows c.args.self.now _ p c.args.len c.requires.left c.requires.length refl refl refl
    (λ m held. subst (λ (bytes : List ℕ). Holds256 c.update.new.self (m ++ bytes)) c.record_bytes.ensures (c.update.ensures m held)) taken

use Rattle.std.proofs.Common.{ℕ, List, ◌++◌, refl, subst}
use Rattle.sha2.specs.Hashers.{Holds256}
use Rattle.sd_stream.proofs.TallyLemmas.{acknowledged_grows}
use Rattle.sd_stream.proofs.tally.Tally.acknowledged.Goals as goal

pub returns-clause-grows : goal.returns-clause-grows
returns-clause-grows c = λ p taken.
    acknowledged_grows c.args.self.now _ p c.args.number c.requires.left c.requires.waiting c.requires.above c.ranges.number.fits c.requires.left refl refl
    (λ m held. subst (λ (bytes : List ℕ). Holds256 c.update.new.self (m ++ bytes)) c.record_bytes.ensures (c.update.ensures m held)) taken

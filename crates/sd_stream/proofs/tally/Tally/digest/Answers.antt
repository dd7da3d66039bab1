use Rattle.std.proofs.Common.{ℕ, List, ◌++◌, subst}
use Rattle.sha2.specs.Hashers.{Holds256}
use Rattle.sd_stream.proofs.TallyLemmas.{ends}
use Rattle.sd_stream.proofs.tally.Tally.digest.Goals as goal

pub returns-clause-hashed : goal.returns-clause-hashed
returns-clause-hashed c = λ text held.
    c.finalize_reset.ensures.digest _ (subst (λ (bytes : List ℕ). Holds256 c.update.new.self (text ++ bytes)) c.record_bytes.ensures (c.update.ensures text held))

pub returns-clause-stream : goal.returns-clause-stream
returns-clause-stream c = λ p taken. (taken.order.base, taken.order.groups)

pub returns-clause-text : goal.returns-clause-text
returns-clause-text c = λ p taken. ends c.args.self.now p c.requires.waiting taken

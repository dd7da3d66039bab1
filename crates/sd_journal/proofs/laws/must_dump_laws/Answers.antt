use Rattle.sd_journal.proofs.DueLemmas.{still}
use Rattle.sd_journal.proofs.laws.must_dump_laws.Goals as goal

pub returns : goal.returns
returns c = record {
  bit = λ base items contents space number page tracked. tracked.bits.soft_dirty space number page;
  still = still;
}

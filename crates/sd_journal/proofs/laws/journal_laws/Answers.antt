use Rattle.sd_journal.proofs.AlikeLemmas.{allowed_alike, legal_alike}
use Rattle.sd_journal.proofs.AllowedLemmas.{applied_allows, freeze_allows, acked_allows, cancelled_allows, reopened_allows}
use Rattle.sd_journal.proofs.HistoryLemmas.{last_has, pending_has, last_below, pending_below}
use Rattle.sd_journal.proofs.laws.journal_laws.Goals as goal

pub returns : goal.returns
returns c = record {
  applied = applied_allows;
  freeze = freeze_allows;
  acked = acked_allows;
  cancelled = cancelled_allows;
  reopened = reopened_allows;
  last_has = last_has;
  pending_has = λ base history n legal. pending_has base history n;
  last_below = λ base history n k legal. last_below base history n k;
  pending_below = λ base history n k legal. pending_below base history n k;
  legal_alike = legal_alike;
  allowed_alike = allowed_alike;
}

use Rattle.sd_journal.proofs.TrimLemmas.{freeze, legal, memory, last_stays, pending_stays, last_pair, pending_pair, allowed, above, one, some}
use Rattle.sd_journal.proofs.laws.trim_laws.Goals as goal

pub returns : goal.returns
returns c = record {
  freeze = freeze;
  legal = legal;
  memory = memory;
  last_stays = last_stays;
  pending_stays = pending_stays;
  last_pair = last_pair;
  pending_pair = pending_pair;
  allowed = allowed;
  above = above;
  one = one;
  some = some;
}

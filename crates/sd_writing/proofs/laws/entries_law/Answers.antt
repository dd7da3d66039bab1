use Rattle.sd_writing.proofs.EntryLemmas.{lists}
use Rattle.sd_writing.proofs.laws.entries_law.Goals as goal

pub returns : goal.returns
returns c = lists

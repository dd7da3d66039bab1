use Rattle.sd_merge.proofs.MergingLemmas.{merge_laws}
use Rattle.sd_merge.proofs.laws.merge_law.Goals as goal

pub returns : goal.returns
returns c = merge_laws c.entries_law.ensures c.cut_holds_the_same.ensures

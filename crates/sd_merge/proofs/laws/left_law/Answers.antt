use Rattle.sd_merge.proofs.LeftLemmas.{left_laws}
use Rattle.sd_merge.proofs.laws.left_law.Goals as goal

pub returns : goal.returns
returns c = left_laws

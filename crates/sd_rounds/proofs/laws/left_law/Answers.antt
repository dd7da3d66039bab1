use Rattle.sd_rounds.proofs.LeftLemmas.{left_laws}
use Rattle.sd_rounds.proofs.laws.left_law.Goals as goal

pub returns : goal.returns
returns c = left_laws c.plain_law.ensures

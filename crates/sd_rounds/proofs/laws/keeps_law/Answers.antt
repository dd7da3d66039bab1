use Rattle.sd_rounds.proofs.KeepsLemmas.{keeps_laws}
use Rattle.sd_rounds.proofs.laws.keeps_law.Goals as goal

pub returns : goal.returns
returns c = keeps_laws c.clean_law.ensures c.clear_law.ensures

use Rattle.sd_rounds.proofs.StepLemmas.{step_laws}
use Rattle.sd_rounds.proofs.laws.step_law.Goals as goal

pub returns : goal.returns
returns c = step_laws c.keeps_law.ensures c.rises_law.ensures c.dump_law.ensures c.made_law.ensures

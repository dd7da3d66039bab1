use Rattle.sd_rounds.proofs.MakingLemmas.{making_laws}
use Rattle.sd_rounds.proofs.laws.making_law.Goals as goal

pub returns : goal.returns
returns c = making_laws c.keeps_law.ensures c.dump_law.ensures c.step_law.ensures

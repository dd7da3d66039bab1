use Rattle.sd_rounds.proofs.LittleLemmas.{little_laws}
use Rattle.sd_rounds.proofs.laws.little_law.Goals as goal

pub returns : goal.returns
returns c = little_laws c.plain_law.ensures c.rises_law.ensures c.dump_law.ensures c.step_law.ensures c.visits_law.ensures

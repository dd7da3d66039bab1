use Rattle.sd_rounds.proofs.RisesLemmas.{rises_laws}
use Rattle.sd_rounds.proofs.laws.rises_law.Goals as goal

pub returns : goal.returns
returns c = rises_laws

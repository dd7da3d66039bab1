use Rattle.sd_rounds.proofs.VisitLemmas.{visit_laws}
use Rattle.sd_rounds.proofs.laws.visits_law.Goals as goal

pub returns : goal.returns
returns c = visit_laws

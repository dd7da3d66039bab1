use Rattle.sd_rounds.proofs.ImageVisitLemmas.{image_visit_laws}
use Rattle.sd_rounds.proofs.laws.image_visits_law.Goals as goal

pub returns : goal.returns
returns c = image_visit_laws c.visits_law.ensures

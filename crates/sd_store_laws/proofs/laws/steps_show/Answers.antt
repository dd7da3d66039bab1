use Rattle.sd_store_laws.proofs.Opens.{steps_show_lem}
use Rattle.sd_store_laws.proofs.laws.steps_show.Goals as goal

pub returns : goal.returns
returns c = steps_show_lem

use Rattle.sd_image.proofs.ReadyLemmas.{ready_above_lem}
use Rattle.sd_image.proofs.laws.ready_above.Goals as goal

pub returns : goal.returns
returns c = ready_above_lem

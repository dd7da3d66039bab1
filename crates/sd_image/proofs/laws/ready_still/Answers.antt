use Rattle.sd_image.proofs.ReadyLemmas.{ready_still_lem}
use Rattle.sd_image.proofs.laws.ready_still.Goals as goal

pub returns : goal.returns
returns c = ready_still_lem

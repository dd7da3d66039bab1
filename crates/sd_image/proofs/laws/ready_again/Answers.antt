use Rattle.sd_image.proofs.ReadyLemmas.{ready_again_lem}
use Rattle.sd_image.proofs.laws.ready_again.Goals as goal

pub returns : goal.returns
returns c = ready_again_lem

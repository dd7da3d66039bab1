use Rattle.sd_image.proofs.ReadyLemmas.{shown_still_lem}
use Rattle.sd_image.proofs.laws.shown_still.Goals as goal

pub returns : goal.returns
returns c = shown_still_lem

use Rattle.sd_image.proofs.OneImage.{one_spelling_lem}
use Rattle.sd_image.proofs.laws.one_spelling.Goals as goal

pub returns : goal.returns
returns c = one_spelling_lem

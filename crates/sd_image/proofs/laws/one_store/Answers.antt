use Rattle.sd_image.proofs.OneImage.{one_store_lem}
use Rattle.sd_image.proofs.laws.one_store.Goals as goal

pub returns : goal.returns
returns c = one_store_lem

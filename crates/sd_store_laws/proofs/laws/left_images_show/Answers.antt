use Rattle.sd_store_laws.proofs.Slots.{left_images_show_lem}
use Rattle.sd_store_laws.proofs.laws.left_images_show.Goals as goal

pub returns : goal.returns
returns c = left_images_show_lem

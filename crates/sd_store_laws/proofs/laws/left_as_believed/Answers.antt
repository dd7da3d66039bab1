use Rattle.sd_store_laws.proofs.Gates.{left_as_believed}
use Rattle.sd_store_laws.proofs.laws.left_as_believed.Goals as goal

pub returns : goal.returns
returns c = left_as_believed c.image_whole_or_closed.ensures

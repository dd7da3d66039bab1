use Rattle.sd_gate.proofs.BodyLemmas.{page_filled, image_filled}
use Rattle.sd_gate.proofs.laws.bodies_fill.Goals as goal

pub returns : goal.returns
returns c = record { page = page_filled; image = image_filled }

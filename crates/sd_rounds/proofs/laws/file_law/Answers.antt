use Rattle.sd_rounds.proofs.FileLemmas.{file_laws}
use Rattle.sd_rounds.proofs.laws.file_law.Goals as goal

pub returns : goal.returns
returns c = file_laws c.text_is_image.ensures c.bodies_fill.ensures c.plain_law.ensures c.made_law.ensures c.making_law.ensures

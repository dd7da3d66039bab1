use Rattle.sd_merge.proofs.FileLemmas.{file_laws}
use Rattle.sd_merge.proofs.laws.merged_file_law.Goals as goal

pub returns : goal.returns
returns c = file_laws c.entries_law.ensures c.text_is_image.ensures c.bodies_fill.ensures c.held_once_among.ensures c.merged_repeats.ensures

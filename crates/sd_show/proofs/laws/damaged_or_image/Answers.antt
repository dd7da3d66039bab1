use Rattle.sd_show.proofs.SlotLemmas.{told_apart}
use Rattle.sd_show.proofs.laws.damaged_or_image.Goals as goal

pub returns : goal.returns
returns c = told_apart c.one_reason.ensures

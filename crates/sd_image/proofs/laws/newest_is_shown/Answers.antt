use Rattle.sd_image.proofs.ShowsLemmas.{newest_is_shown_lem}
use Rattle.sd_image.proofs.laws.newest_is_shown.Goals as goal

pub returns : goal.returns
returns c = newest_is_shown_lem

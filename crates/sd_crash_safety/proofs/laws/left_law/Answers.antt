use Rattle.sd_crash_safety.proofs.Reopened.{left_shows_lem}
use Rattle.sd_crash_safety.proofs.laws.left_law.Goals as goal

pub returns : goal.returns
returns c = left_shows_lem c.left_as_believed.ensures c.contents_show.ensures

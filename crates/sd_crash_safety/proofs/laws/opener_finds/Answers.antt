use Rattle.sd_crash_safety.proofs.Finds.{opener_finds_lem}
use Rattle.sd_crash_safety.proofs.laws.opener_finds.Goals as goal

pub returns : goal.returns
returns c = opener_finds_lem c.left_as_believed.ensures c.contents_show.ensures

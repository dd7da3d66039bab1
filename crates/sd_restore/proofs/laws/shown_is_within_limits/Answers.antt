use Rattle.sd_restore.proofs.FitsLemmas.{shown_is_within_limits_lem}
use Rattle.sd_restore.proofs.laws.shown_is_within_limits.Goals as goal

pub returns : goal.returns
returns c = shown_is_within_limits_lem c.areas_law.ensures c.one_list_law.ensures c.count_law.ensures

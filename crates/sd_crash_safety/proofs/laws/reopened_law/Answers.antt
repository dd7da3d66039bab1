use Rattle.sd_crash_safety.proofs.Reopened.{reopened_lem}
use Rattle.sd_crash_safety.proofs.laws.reopened_law.Goals as goal

pub returns : goal.returns
returns c = reopened_lem c.left_law.ensures c.found_law.ensures c.journal_laws.ensures

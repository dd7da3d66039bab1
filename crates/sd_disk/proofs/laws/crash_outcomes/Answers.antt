use Rattle.sd_disk.proofs.CallLemmas.{leads_back, leads_on}
use Rattle.sd_disk.proofs.laws.crash_outcomes.Goals as goal

pub returns : goal.returns
returns c outside event earlier after = (leads_back outside event earlier after, leads_on outside event earlier after)

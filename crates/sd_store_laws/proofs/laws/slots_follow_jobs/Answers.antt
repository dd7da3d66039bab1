use Rattle.sd_store_laws.proofs.SlotSteps.{slots_follow_jobs_lem}
use Rattle.sd_store_laws.proofs.laws.slots_follow_jobs.Goals as goal

pub returns : goal.returns
returns c = slots_follow_jobs_lem

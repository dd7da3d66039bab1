use Rattle.sd_store_laws.proofs.Kept.{work_stays_lem}
use Rattle.sd_store_laws.proofs.live_laws.work_stays.Goals as goal

pub returns : goal.returns
returns c = work_stays_lem

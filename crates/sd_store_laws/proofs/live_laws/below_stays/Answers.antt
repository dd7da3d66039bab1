use Rattle.sd_store_laws.proofs.Below.{below_stays_lem}
use Rattle.sd_store_laws.proofs.live_laws.below_stays.Goals as goal

pub returns : goal.returns
returns c = below_stays_lem

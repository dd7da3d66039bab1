use Rattle.sd_store_laws.proofs.Stays.{twin_stays_lem}
use Rattle.sd_store_laws.proofs.laws.merged_copy_stays.Goals as goal

pub returns : goal.returns
returns c = twin_stays_lem

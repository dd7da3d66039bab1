use Rattle.sd_store_laws.proofs.Stays.{fresh_stays_lem}
use Rattle.sd_store_laws.proofs.laws.fresh_stays.Goals as goal

pub returns : goal.returns
returns c = fresh_stays_lem

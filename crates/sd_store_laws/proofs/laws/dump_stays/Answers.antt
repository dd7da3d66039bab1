use Rattle.sd_store_laws.proofs.Stays.{dump_stays_lem}
use Rattle.sd_store_laws.proofs.laws.dump_stays.Goals as goal

pub returns : goal.returns
returns c = dump_stays_lem

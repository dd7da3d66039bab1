use Rattle.sd_store_laws.proofs.Kept.{retires_unneeded_lem}
use Rattle.sd_store_laws.proofs.live_laws.retires_unneeded.Goals as goal

pub returns : goal.returns
returns c = retires_unneeded_lem

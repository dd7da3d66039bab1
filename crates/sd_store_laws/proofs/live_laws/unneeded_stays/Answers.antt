use Rattle.sd_store_laws.proofs.NeedsLaws.{unneeded_stays_lem}
use Rattle.sd_store_laws.proofs.live_laws.unneeded_stays.Goals as goal

pub returns : goal.returns
returns c = unneeded_stays_lem

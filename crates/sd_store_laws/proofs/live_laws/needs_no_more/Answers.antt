use Rattle.sd_store_laws.proofs.NeedsLaws.{needs_no_more_lem}
use Rattle.sd_store_laws.proofs.live_laws.needs_no_more.Goals as goal

pub returns : goal.returns
returns c = needs_no_more_lem

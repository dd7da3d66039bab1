use Rattle.sd_store_laws.proofs.Makers.{above_is_fresh_lem}
use Rattle.sd_store_laws.proofs.live_laws.above_is_fresh.Goals as goal

pub returns : goal.returns
returns c = above_is_fresh_lem

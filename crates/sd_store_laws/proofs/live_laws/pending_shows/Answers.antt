use Rattle.sd_store_laws.proofs.Pending.{pending_shows_lem}
use Rattle.sd_store_laws.proofs.live_laws.pending_shows.Goals as goal

pub returns : goal.returns
returns c = pending_shows_lem

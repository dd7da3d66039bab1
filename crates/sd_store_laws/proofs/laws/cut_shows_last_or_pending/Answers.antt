use Rattle.sd_store_laws.proofs.Cuts.{cut_shows_last_or_pending_lem}
use Rattle.sd_store_laws.proofs.laws.cut_shows_last_or_pending.Goals as goal

pub returns : goal.returns
returns c = cut_shows_last_or_pending_lem

use Rattle.sd_store_laws.proofs.Kept.{in_use_is_needed_lem}
use Rattle.sd_store_laws.proofs.live_laws.live_is_needed.Goals as goal

pub returns : goal.returns
returns c = in_use_is_needed_lem

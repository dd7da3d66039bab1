use Rattle.sd_store_laws.proofs.Below.{own_is_needed_lem}
use Rattle.sd_store_laws.proofs.live_laws.own_is_needed.Goals as goal

pub returns : goal.returns
returns c = own_is_needed_lem

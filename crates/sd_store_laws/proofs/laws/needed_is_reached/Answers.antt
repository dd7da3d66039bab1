use Rattle.sd_store_laws.proofs.Walks.{needed_is_reached_lem}
use Rattle.sd_store_laws.proofs.laws.needed_is_reached.Goals as goal

pub returns : goal.returns
returns c = needed_is_reached_lem

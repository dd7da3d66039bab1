use Rattle.sd_store_laws.proofs.Opens.{order_is_free_lem}
use Rattle.sd_store_laws.proofs.laws.order_is_free.Goals as goal

pub returns : goal.returns
returns c = order_is_free_lem

use Rattle.sd_store_laws.proofs.ShownStays.{dump_is_pending_lem}
use Rattle.sd_store_laws.proofs.laws.dump_is_pending.Goals as goal

pub returns : goal.returns
returns c = dump_is_pending_lem

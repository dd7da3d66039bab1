use Rattle.sd_store_laws.proofs.LiveImages.{told_reaches_so_lem}
use Rattle.sd_store_laws.proofs.slot_laws.recorded_reaches_so.Goals as goal

pub returns : goal.returns
returns c = told_reaches_so_lem c.args.catalog.now c.agrees.ensures

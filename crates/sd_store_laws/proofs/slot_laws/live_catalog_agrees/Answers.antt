use Rattle.sd_store_laws.proofs.LiveImages.{tells_lem}
use Rattle.sd_store_laws.proofs.slot_laws.live_catalog_agrees.Goals as goal

pub returns : goal.returns
returns c = tells_lem c.args.catalog.now c.sound.ensures

use Rattle.sd_store_laws.proofs.LiveImages.{catalog_follows_lem}
use Rattle.sd_store_laws.proofs.slot_laws.catalog_follows.Goals as goal

pub returns : goal.returns
returns c = catalog_follows_lem

use Rattle.sd_store_laws.proofs.LiveImages.{catalog_is_found_lem}
use Rattle.sd_store_laws.proofs.slot_laws.catalog_is_found.Goals as goal

pub returns : goal.returns
returns c = catalog_is_found_lem c.one_image.ensures

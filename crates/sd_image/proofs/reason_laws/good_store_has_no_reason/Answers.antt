use Rattle.sd_image.proofs.FileLaws.{good_store}
use Rattle.sd_image.proofs.reason_laws.good_store_has_no_reason.Goals as goal

pub returns : goal.returns
returns c = good_store

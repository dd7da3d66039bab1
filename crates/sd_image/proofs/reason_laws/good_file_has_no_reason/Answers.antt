use Rattle.sd_image.proofs.FileLaws.{good_file}
use Rattle.sd_image.proofs.reason_laws.good_file_has_no_reason.Goals as goal

pub returns : goal.returns
returns c = good_file

use Rattle.sd_image.proofs.FileLaws.{good_table}
use Rattle.sd_image.proofs.reason_laws.good_table_has_no_reason.Goals as goal

pub returns : goal.returns
returns c = good_table

use Rattle.sd_image.proofs.FileLaws.{one_reason_lem}
use Rattle.sd_image.proofs.reason_laws.one_reason.Goals as goal

pub returns : goal.returns
returns c = one_reason_lem

use Rattle.sd_image.proofs.LeastReason.{least_header_reason_lem}
use Rattle.sd_image.proofs.reason_laws.least_header_reason.Goals as goal

pub returns : goal.returns
returns c = least_header_reason_lem

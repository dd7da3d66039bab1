use Rattle.sd_image.proofs.FirstFaultLaws.{first_fault_is_named_lem}
use Rattle.sd_image.proofs.reason_laws.first_fault_is_named.Goals as goal

pub returns : goal.returns
returns c = first_fault_is_named_lem

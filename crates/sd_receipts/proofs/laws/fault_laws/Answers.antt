use Rattle.sd_receipts.proofs.FaultLemmas.{fault_apart, one_fault}
use Rattle.sd_receipts.proofs.laws.fault_laws.Goals as goal

pub returns : goal.returns
returns c = record { one = one_fault; apart = fault_apart }

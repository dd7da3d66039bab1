use Rattle.sd_crash_safety.proofs.Performed.{performed_lem}
use Rattle.sd_crash_safety.proofs.laws.performed_law.Goals as goal

pub returns : goal.returns
returns c = performed_lem

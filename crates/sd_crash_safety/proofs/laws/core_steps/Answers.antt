use Rattle.sd_crash_safety.proofs.CoreSteps.{core_steps_lem}
use Rattle.sd_crash_safety.proofs.laws.core_steps.Goals as goal

pub returns : goal.returns
returns c = core_steps_lem c.quiet_steps.ensures c.keeps_law.ensures c.making_law.ensures

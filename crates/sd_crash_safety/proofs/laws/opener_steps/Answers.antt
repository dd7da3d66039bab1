use Rattle.sd_crash_safety.proofs.OpenerSteps.{opener_steps_lem}
use Rattle.sd_crash_safety.proofs.laws.opener_steps.Goals as goal

pub returns : goal.returns
returns c = opener_steps_lem c.quiet_steps.ensures c.given_up_syncs.ensures

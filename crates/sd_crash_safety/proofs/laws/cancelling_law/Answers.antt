use Rattle.sd_crash_safety.proofs.CancelLaw.{cancelling_lem}
use Rattle.sd_crash_safety.proofs.laws.cancelling_law.Goals as goal

pub returns : goal.returns
returns c = cancelling_lem c.quiet_steps.ensures c.gate_steps.ensures c.needs_no_more.ensures

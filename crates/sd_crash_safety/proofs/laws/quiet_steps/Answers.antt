use Rattle.sd_crash_safety.proofs.QuietSteps.{quiet_steps_lem}
use Rattle.sd_crash_safety.proofs.laws.quiet_steps.Goals as goal

pub returns : goal.returns
returns c = quiet_steps_lem c.beliefs_follow_calls.ensures c.one_belief_changes.ensures c.journal_laws.ensures

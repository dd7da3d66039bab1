use Rattle.sd_crash_safety.proofs.Trims.{believes_trimmed}
use Rattle.sd_crash_safety.proofs.laws.trim_step.Goals as goal

pub returns : goal.returns
returns c = believes_trimmed c.trim_laws.ensures c.marked_trim_laws.ensures

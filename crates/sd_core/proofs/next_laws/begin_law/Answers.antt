use Rattle.std.proofs.Common.{sym, subst}
use Rattle.sd_crash_safety.specs.CheckpointSteps.{BeginningIsBelieved}
use Rattle.sd_core.proofs.OrderLaws.{begin_is}
use Rattle.sd_core.proofs.next_laws.begin_law.Goals as goal

pub returns : goal.returns
returns c = λ rounds old answer new sound is. begin_is c.core_steps.ensures c.free_law.ensures rounds old answer new sound (subst BeginningIsBelieved (sym is) c.beginning_law.ensures)

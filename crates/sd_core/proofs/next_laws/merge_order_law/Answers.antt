use Rattle.std.proofs.Common.{sym, subst}
use Rattle.sd_crash_safety.specs.MergerSteps.{MergeBeginningIsBelieved}
use Rattle.sd_core.proofs.OrderLaws.{merge_is}
use Rattle.sd_core.proofs.next_laws.merge_order_law.Goals as goal

pub returns : goal.returns
returns c = λ old answer new sound is. merge_is c.core_steps.ensures c.free_law.ensures old answer new sound (subst MergeBeginningIsBelieved (sym is) c.merge_beginning_law.ensures)

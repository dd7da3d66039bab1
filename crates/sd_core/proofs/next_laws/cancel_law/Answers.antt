use Rattle.sd_core.proofs.OrderLaws.{cancel_is}
use Rattle.sd_core.proofs.next_laws.cancel_law.Goals as goal

pub returns : goal.returns
returns c = λ old answer new sound. cancel_is c.core_steps.ensures c.cancelling_law.ensures old answer new sound

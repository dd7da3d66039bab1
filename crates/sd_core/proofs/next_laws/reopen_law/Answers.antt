use Rattle.sd_core.proofs.OrderLaws.{reopen_is}
use Rattle.sd_core.proofs.next_laws.reopen_law.Goals as goal

pub returns : goal.returns
returns c = λ old answer new sound. reopen_is c.core_steps.ensures c.opener_steps.ensures old answer new sound

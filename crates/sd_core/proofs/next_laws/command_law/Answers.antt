use Rattle.sd_core.proofs.OrderLaws.{command_is}
use Rattle.sd_core.proofs.next_laws.command_law.Goals as goal

pub returns : goal.returns
returns c = λ seat command told old new sound. command_is c.core_steps.ensures seat command told old new sound

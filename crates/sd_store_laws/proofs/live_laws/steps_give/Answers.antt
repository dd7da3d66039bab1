use Rattle.sd_store_laws.proofs.Below.{steps_give_lem}
use Rattle.sd_store_laws.proofs.live_laws.steps_give.Goals as goal

pub returns : goal.returns
returns c = steps_give_lem

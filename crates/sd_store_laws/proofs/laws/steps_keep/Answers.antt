use Rattle.sd_store_laws.proofs.StepLemmas.{steps_keep_lem}
use Rattle.sd_store_laws.proofs.laws.steps_keep.Goals as goal

pub returns : goal.returns
returns c = steps_keep_lem

use Rattle.sd_rounds.proofs.MadeLemmas.{made_laws}
use Rattle.sd_rounds.proofs.laws.made_law.Goals as goal

pub returns : goal.returns
returns c = made_laws c.plain_law.ensures

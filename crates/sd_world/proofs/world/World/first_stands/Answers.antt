use Rattle.sd_world.proofs.HeadlineLemmas as lemmas
use Rattle.sd_world.proofs.world.World.first_stands.Goals as goal

pub returns : goal.returns
returns g c = lemmas.first_stands

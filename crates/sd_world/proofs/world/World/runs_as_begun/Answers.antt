use Rattle.sd_world.proofs.BegunLemmas as lemmas
use Rattle.sd_world.proofs.world.World.runs_as_begun.Goals as goal

pub returns : goal.returns
returns g c = lemmas.runs_as_begun g.D.Disk

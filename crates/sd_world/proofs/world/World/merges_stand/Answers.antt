use Rattle.sd_world.proofs.MergedLemmas as lemmas
use Rattle.sd_world.proofs.world.World.merges_stand.Goals as goal

pub returns : goal.returns
returns g c = lemmas.merges_stand g.D.Disk

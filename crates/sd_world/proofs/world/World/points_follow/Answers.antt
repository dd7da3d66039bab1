use Rattle.sd_world.proofs.HeadlineLemmas as lemmas
use Rattle.sd_world.proofs.world.World.points_follow.Goals as goal

pub returns : goal.returns
returns g c = lemmas.points_follow c.trim_laws.ensures g.D.Disk

use Rattle.sd_world.proofs.GoesLemmas as lemmas
use Rattle.sd_world.proofs.world.World.goes_leave.Goals as goal

pub returns : goal.returns
returns g c = lemmas.goes_span g.D.Disk g.met.D.Disk.only_now

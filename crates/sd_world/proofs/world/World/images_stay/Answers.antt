use Rattle.std.proofs.Common.{subst}
use Rattle.sd_core.specs.GoingOn.{HasItsJobs}
use Rattle.sd_world.specs.Consistent.{IsWorld}
use Rattle.sd_world.specs.View.{WorldView}
use Rattle.sd_world.proofs.LifetimeLemmas as lemmas
use Rattle.sd_world.proofs.world.World.images_stay.Goals as goal

pub returns : goal.returns
returns g c = lemmas.images_stay g.D.Disk c.args.self.now (subst (IsWorld g.D.Disk) c.self.view_is c.self.invariant.is)
    (subst (λ (w : WorldView g.row.D.Denot). HasItsJobs w.core) c.self.view_is c.goes_on.ensures.jobs)

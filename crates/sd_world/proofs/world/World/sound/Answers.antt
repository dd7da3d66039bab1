use Rattle.std.proofs.Common.{subst}
use Rattle.sd_world.specs.Acked.{IsWorldThere}
use Rattle.sd_world.specs.Consistent.{IsWorld}
use Rattle.sd_world.proofs.AllowedLemmas.{world_allows}
use Rattle.sd_world.proofs.world.World.sound.Goals as goal

pub returns-clause-allowed : goal.returns-clause-allowed
returns-clause-allowed g c = world_allows g.D.Disk c.args.self.now c.left_as_believed.ensures c.contents_show.ensures c.writes_commute.ensures
    (g.met.D.Disk.same_slots c.args.self.now.disk) (subst (IsWorld g.D.Disk) c.self.view_is c.self.invariant.is)

pub returns-clause-contents : goal.returns-clause-contents
returns-clause-contents g c = λ honest. world_allows g.D.Disk c.args.self.now c.left_as_believed.ensures c.contents_show.ensures c.writes_commute.ensures
    (g.met.D.Disk.same_slots c.args.self.now.disk) (subst (IsWorld g.D.Disk) c.self.view_is c.self.invariant.is) honest
    (g.D.Disk.contents c.args.self.now.disk) (g.met.D.Disk.as_read c.args.self.now.disk)

pub returns-clause-pre_dumps : goal.returns-clause-pre_dumps
returns-clause-pre_dumps g c = (subst (IsWorldThere g.D.Disk) c.self.view_is c.self.invariant).pre_dumps

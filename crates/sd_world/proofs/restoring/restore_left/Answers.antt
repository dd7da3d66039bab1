use Rattle.sd_world.proofs.RestoreLemmas.{is_restored, restored_as}
use Rattle.sd_world.proofs.restoring.restore_left.Goals as goal

pub returns-clause-restored : goal.returns-clause-restored
returns-clause-restored g c = λ base history honest allowed.
    is_restored c.shown_once.ensures (g.D.Disk.contents c.args.disk.now) base history c.restore.result (c.restore.ensures.shown honest)
    (c.restore.ensures.empty honest) (c.restore.ensures.good honest) allowed

pub returns-clause-given : goal.returns-clause-given
returns-clause-given g c = λ shown honest shows.
    restored_as c.shown_once.ensures (g.D.Disk.contents c.args.disk.now) shown c.restore.result shows (c.restore.ensures.shown honest)
    (c.restore.ensures.empty honest) (c.restore.ensures.good honest shown shows)

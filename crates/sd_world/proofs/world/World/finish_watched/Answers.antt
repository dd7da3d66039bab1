use Rattle.sd_world.proofs.PointLemmas.{finished_reaches}
use Rattle.sd_world.proofs.world.World.finish_watched.Goals as goal

pub returns-clause-promise : goal.returns-clause-promise
returns-clause-promise g c = finished_reaches g.D.Disk c.points_follow.ensures c.args.worker c.args.self.now c.follow-answer.new.self c.follow-answer.result c.follow-answer.ensures.finished

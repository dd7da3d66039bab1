use Rattle.std.proofs.Common.{sym, ◌∙◌}
use Rattle.sd_world.specs.Jobs.{IsJob}
use Rattle.sd_world.proofs.GoesOnLemmas.{goes_further}
use Rattle.sd_world.proofs.JobLemmas.{job_shows}
use Rattle.sd_world.proofs.PointLemmas.{job_reaches}
use Rattle.sd_world.proofs.world.World.do_job.Goals as goal

pub returns-clause-job : goal.returns-clause-job
returns-clause-job g c = IsJob.finished c.make-begun.result c.make-begun.new.self (sym c.is_end.ensures ∙ c.if-is_end.false)
    c.make-begun.ensures.step c.finish_watched.ensures.finished

pub returns-clause-goes_on : goal.returns-clause-goes_on
returns-clause-goes_on g c = goes_further g.D.Disk c.args.self.now c.make-begun.new.self c.finish_watched.new.self
    c.make-begun.ensures.goes_on c.finish_watched.ensures.goes_on

pub returns-clause-shows : goal.returns-clause-shows
returns-clause-shows g c = job_shows g.D.Disk c.args.order c.args.worker c.args.self.now c.finish_watched.new.self c.finish_watched.result (returns-clause-job g c)

pub returns-clause-promise : goal.returns-clause-promise
returns-clause-promise g c = job_reaches g.D.Disk c.points_follow.ensures c.args.order c.args.worker c.args.self.now c.finish_watched.new.self c.finish_watched.result
    (returns-clause-job g c)

pub returns-then-is_end-clause-shows : goal.returns-then-is_end-clause-shows
returns-then-is_end-clause-shows g c = c.make-begun.ensures.step.shows

pub returns-then-is_end-clause-promise : goal.returns-then-is_end-clause-promise
returns-then-is_end-clause-promise g c = job_reaches g.D.Disk c.points_follow.ensures c.args.order c.args.worker c.args.self.now c.make-begun.new.self c.make-begun.result
    (IsJob.refused (sym c.is_end.ensures ∙ c.if-is_end.true) c.make-begun.ensures.step)

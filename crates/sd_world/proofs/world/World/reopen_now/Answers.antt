use Rattle.std.proofs.Common.{[], ◌∷◌, subst}
use Rattle.sd_crash_safety.specs.View.{history_of}
use Rattle.sd_disk.specs.Crash.{Within}
use Rattle.sd_gate.specs.declared.worker.Worker.TheVariants.{Opener}
use Rattle.sd_world.specs.declared.event.Event.TheVariants.{Reopen}
use Rattle.sd_world.specs.Jobs.{GoesByJob, IsJob}
use Rattle.sd_world.specs.Points.{StandsAt}
use Rattle.sd_world.specs.Promise.{Point}
use Rattle.sd_world.specs.Runs.{ShowsReply}
use Rattle.sd_world.proofs.JobLemmas.{reopening_ends}
use Rattle.sd_world.proofs.SavedLemmas.{IsOfJob, job_keeps}
use Rattle.sd_world.proofs.world.World.reopen_now.Goals as goal

pub reopened-requires : goal.reopened-requires
reopened-requires g c = reopening_ends g.D.Disk c.args.self.now c.do_job.new.self c.do_job.result c.do_job.ensures.job

pub returns-clause-job : goal.returns-clause-job
returns-clause-job g c = subst (λ answer. IsJob g.D.Disk Reopen Opener c.args.self.now answer c.do_job.new.self) c.reopened.ensures c.do_job.ensures.job

pub returns-clause-shows : goal.returns-clause-shows
returns-clause-shows g c = λ honest.
    let last = c.do_job.new.self in
    subst (λ answer. Within (g.D.Disk.may_leave last.disk) (ShowsReply answer last.core.base (history_of last.core))) c.reopened.ensures
    (c.do_job.ensures.shows honest)

pub returns-clause-promise : goal.returns-clause-promise
returns-clause-promise g c = λ honest first stands.
    subst (λ answer. (last : Point g.row.D.Denot) × StandsAt c.do_job.new.self last × GoesByJob g.D.Disk (Reopen ∷ []) Opener first answer last) c.reopened.ensures
    (c.do_job.ensures.promise honest first stands)

pub returns-clause-memory : goal.returns-clause-memory
returns-clause-memory g c = job_keeps g.D.Disk Reopen Opener c.args.self.now c.do_job.new.self c.do_job.result IsOfJob.reopen c.sound.ensures.tracked c.do_job.ensures.job

use Rattle.std.proofs.Common.{[], ◌∷◌, subst}
use Rattle.sd_crash_safety.specs.View.{history_of}
use Rattle.sd_disk.specs.Crash.{Within}
use Rattle.sd_gate.specs.declared.worker.Worker.TheVariants.{Dumper}
use Rattle.sd_world.specs.declared.event.Event.TheVariants.{Begin}
use Rattle.sd_world.specs.Jobs.{GoesByJob, IsJob}
use Rattle.sd_world.specs.Points.{StandsAt}
use Rattle.sd_world.specs.Promise.{Point}
use Rattle.sd_world.specs.Runs.{ShowsReply}
use Rattle.sd_world.proofs.JobLemmas.{checkpoint_ends}
use Rattle.sd_world.proofs.SavedLemmas.{IsOfJob, job_keeps, saves_by}
use Rattle.sd_world.proofs.world.World.checkpoint.Goals as goal

pub acked-requires : goal.acked-requires
acked-requires g c = checkpoint_ends g.D.Disk c.args.rounds c.args.self.now c.do_job.new.self c.do_job.result c.do_job.ensures.job

pub returns-clause-job : goal.returns-clause-job
returns-clause-job g c = subst (λ answer. IsJob g.D.Disk (Begin c.args.rounds) Dumper c.args.self.now answer c.do_job.new.self) c.acked.ensures c.do_job.ensures.job

pub returns-clause-shows : goal.returns-clause-shows
returns-clause-shows g c = λ honest.
    let last = c.do_job.new.self in
    subst (λ answer. Within (g.D.Disk.may_leave last.disk) (ShowsReply answer last.core.base (history_of last.core))) c.acked.ensures
    (c.do_job.ensures.shows honest)

pub returns-clause-promise : goal.returns-clause-promise
returns-clause-promise g c = λ honest first stands.
    subst (λ answer. (last : Point g.row.D.Denot) × StandsAt c.do_job.new.self last × GoesByJob g.D.Disk ((Begin c.args.rounds) ∷ []) Dumper first answer last) c.acked.ensures
    (c.do_job.ensures.promise honest first stands)

pub returns-clause-memory : goal.returns-clause-memory
returns-clause-memory g c = job_keeps g.D.Disk (Begin c.args.rounds) Dumper c.args.self.now c.do_job.new.self c.do_job.result (IsOfJob.begin c.args.rounds)
    c.sound.ensures.tracked c.do_job.ensures.job

pub returns-clause-saves : goal.returns-clause-saves
returns-clause-saves g c = saves_by g.D.Disk c.args.rounds c.args.self.now c.do_job.new.self c.do_job.result c.acked.result c.acked.ensures
    c.sound.ensures.tracked c.do_job.ensures.job c.do_job.ensures.shows

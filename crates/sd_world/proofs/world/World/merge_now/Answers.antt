use Rattle.std.proofs.Common.{[], ◌∷◌, subst}
use Rattle.sd_gate.specs.declared.worker.Worker.TheVariants.{Merger}
use Rattle.sd_world.specs.declared.event.Event.TheVariants.{Merge}
use Rattle.sd_world.specs.Jobs.{GoesByJob, IsJob}
use Rattle.sd_world.specs.Points.{StandsAt}
use Rattle.sd_world.specs.Promise.{Point}
use Rattle.sd_world.proofs.JobLemmas.{merge_ends}
use Rattle.sd_world.proofs.SavedLemmas.{IsOfJob, job_keeps}
use Rattle.sd_world.proofs.world.World.merge_now.Goals as goal

pub merged-requires : goal.merged-requires
merged-requires g c = merge_ends g.D.Disk c.args.self.now c.do_job.new.self c.do_job.result c.do_job.ensures.job

pub returns-clause-job : goal.returns-clause-job
returns-clause-job g c = subst (λ answer. IsJob g.D.Disk Merge Merger c.args.self.now answer c.do_job.new.self) c.merged.ensures c.do_job.ensures.job

pub returns-clause-promise : goal.returns-clause-promise
returns-clause-promise g c = λ honest first stands.
    subst (λ answer. (last : Point g.row.D.Denot) × StandsAt c.do_job.new.self last × GoesByJob g.D.Disk (Merge ∷ []) Merger first answer last) c.merged.ensures
    (c.do_job.ensures.promise honest first stands)

pub returns-clause-memory : goal.returns-clause-memory
returns-clause-memory g c = job_keeps g.D.Disk Merge Merger c.args.self.now c.do_job.new.self c.do_job.result IsOfJob.merge c.sound.ensures.tracked c.do_job.ensures.job

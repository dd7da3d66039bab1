use Rattle.std.proofs.Common.{◌∙◌, ap}
use Rattle.sd_shared.specs.declared.jobs.Jobs.{Jobs}
use Rattle.sd_shared.specs.Turns.{job_number}
use Rattle.sd_shared.proofs.shared.Shared.resume.Goals as goal

pub returns : goal.returns
returns g c = record {
  turn = (
    c.deref_mut.result.now,
    c.resume-number.new.self,
    c.resume-number.ensures.number ∙ ap (λ (jobs : Jobs). job_number jobs c.args.worker) c.resume-number.ensures.jobs,
    c.resume-number.ensures.turn,
  );
}

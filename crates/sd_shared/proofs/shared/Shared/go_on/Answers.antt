use Rattle.std.proofs.Common.{◌∙◌, sym}
use Rattle.sd_shared.specs.Turns.{taken_of}
use Rattle.sd_shared.proofs.TurnLemmas.{resumes_job}
use Rattle.sd_shared.proofs.shared.Shared.go_on.Goals as goal

pub returns-clause-told : goal.returns-clause-told
returns-clause-told g c =
    resumes_job g.D.Disk.contents c.args.worker c.resume-number.result.0 (taken_of c.resume-number.result.1) _ _ _ c.resume-number.ensures.turn c.take.ensures.told c.into_last.ensures
    (rw (sym (c.take.ensures.same.0 ∙ c.new-job.ensures.worker), sym (c.take.ensures.same.1 ∙ c.new-job.ensures.number)) c.go_on.ensures.told)

use Rattle.std.proofs.Common.{sym}
use Rattle.sd_shared.proofs.TurnLemmas.{job_of_told}
use Rattle.sd_shared.proofs.shared.Shared.run.Goals as goal

pub returns-clause-job : goal.returns-clause-job
returns-clause-job g c =
    job_of_told g.D.Disk.contents c.args.worker c.args.rounds c.begin-first.result.1 _ _ _ _ c.begin-first.ensures.turn c.new-job.ensures.last c.into_last.ensures
    (rw (sym c.new-job.ensures.worker, sym c.new-job.ensures.number) c.go_on.ensures.told)

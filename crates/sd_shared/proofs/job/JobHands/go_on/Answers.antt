use Rattle.std.proofs.Common.{ℕ, subst}
use Rattle.sd_gate.specs.declared.worker.Worker.{Worker}
use Rattle.sd_shared.specs.Turns.{WorkerIsAnswered, taken_of}
use Rattle.sd_shared.proofs.job.JobHands.go_on.Goals as goal

pub returns-clause-same : goal.returns-clause-same
returns-clause-same g c = λ reply told.
    subst (λ (worker : Worker). WorkerIsAnswered g.D.Disk.contents worker c.args.self.now.number reply) c.take.ensures.same.0
    (subst (λ (number : ℕ). WorkerIsAnswered g.D.Disk.contents c.take.new.self.worker number reply) c.take.ensures.same.1 told)

pub returns-clause-told : goal.returns-clause-told
returns-clause-told g c = (taken_of c.take_up-next.result, c.take_up-next.ensures.turn, c.take.ensures.told)

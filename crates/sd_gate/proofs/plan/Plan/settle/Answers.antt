use Rattle.std.proofs.Common.{rules, ◌<◌, sym, subst}
use Rattle.sd_gate.specs.Plans.{Planned, steps_left}
use Rattle.sd_gate.proofs.LeftLemmas.{settled_fewer}
use Rattle.sd_gate.proofs.plan.Plan.settle.Goals as goal

pub returns-clause-settled : goal.returns-clause-settled
returns-clause-settled c = search rules

pub returns-clause-fewer : goal.returns-clause-fewer
returns-clause-fewer c = λ out. subst (λ (p : Planned). steps_left p < steps_left c.args.self.now) (sym (returns-clause-settled c out).0)
    (settled_fewer c.args.self.now c.args.outcome out)

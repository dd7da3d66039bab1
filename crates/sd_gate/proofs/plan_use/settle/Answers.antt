use Rattle.sd_gate.proofs.UseLemmas.{settles}
use Rattle.sd_gate.proofs.plan_use.settle.Goals as goal

pub returns : goal.returns
returns c =
    let told = c.settle.ensures.settled c.requires.out in
    settles c.args.plan.now c.settle.new.self c.args.outcome c.settle.result c.requires.under_way c.requires.out told.0 told.1

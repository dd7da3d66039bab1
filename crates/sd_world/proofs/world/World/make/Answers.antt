use Rattle.std.proofs.Common.{subst}
use Rattle.sd_world.specs.Steps.{Does}
use Rattle.sd_world.proofs.GoesOnLemmas.{goes_by_event}
use Rattle.sd_world.proofs.world.World.make.Goals as goal

pub returns-clause-step : goal.returns-clause-step
returns-clause-step g c = c.made_event_laws.ensures.step c.args.event c.args.self.now c.step.result c.step.new.self c.step.ensures.does

pub returns-clause-goes_on : goal.returns-clause-goes_on
returns-clause-goes_on g c =
    let step = returns-clause-step g c in
    goes_by_event g.D.Disk c.args.event c.step.result c.args.self.now c.step.new.self step step.honest step.any_moment

pub returns-clause-lowers : goal.returns-clause-lowers
returns-clause-lowers g c = (c.made_event_laws.ensures.counts c.args.event c.args.self.now c.step.result c.step.new.self c.step.ensures.does).lowers

pub returns-clause-made : goal.returns-clause-made
returns-clause-made g c = (c.made_event_laws.ensures.counts c.args.event c.args.self.now c.step.result c.step.new.self c.step.ensures.does).made

pub returns-clause-still : goal.returns-clause-still
returns-clause-still g c = λ worker is. (subst (λ e. Does g.D.Disk e c.args.self.now c.step.result c.step.new.self) is (returns-clause-step g c).does).core

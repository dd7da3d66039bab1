use Rattle.std.proofs.Common.{Option, sym, ◌∙◌, ap}
use Rattle.std.specs.Option.{option_map}
use Rattle.sd_rounds.specs.Dumper.{Running, running_of}
use Rattle.sd_rounds.proofs.PassStepLemmas.{its_running, found_running, found_passes}
use Rattle.sd_rounds.proofs.dumper.Dumper.pass.Goals as goal

pub invariant_of-self-2 : goal.invariant_of-self-2
invariant_of-self-2 c =
    found_running c.self.inside.since_freeze (running_of c.in-Some.checkpoint) (running_of c.pass_step.new.self) c.args.memory.now c.pass_step.new.memory c.in_ok-found.found
    c.in_ok-found.ensures.works
    (its_running c.self.inside.since_freeze c.self.inside.checkpoint c.in-Some.checkpoint c.self.invariant c.in-Some.is)

pub returns-clause-passes : goal.returns-clause-passes
returns-clause-passes c =
    found_passes c.self.inside.since_freeze (running_of c.in-Some.checkpoint) (running_of c.pass_step.new.self) c.args.self.now c.args.memory.now c.pass_step.new.memory c.in_ok-found.found
    (ap (λ (o : Option Running). record { running = o; since_freeze = c.self.inside.since_freeze }) (sym (ap (option_map running_of) c.in-Some.is)) ∙ c.self.view_is)
    c.in_ok-found.ensures.works

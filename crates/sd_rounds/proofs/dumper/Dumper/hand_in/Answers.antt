use Rattle.std.proofs.Common.{◌+◌, Option, sym, ◌∙◌, ap, subst, arith}
use Rattle.std.specs.Option.{option_map}
use Rattle.sd_rounds.specs.declared.checkpoint.Checkpoint.{Checkpoint}
use Rattle.sd_rounds.specs.Dumper.{AreRunning, IsRunning, running_of}
use Rattle.sd_rounds.proofs.DumperLemmas.{counted_one, ended, goes_on, handed, hands_running, same_dumping}
use Rattle.sd_rounds.proofs.PassStepLemmas.{its_running}
use Rattle.sd_rounds.proofs.dumper.Dumper.hand_in.Goals as goal
use Rattle.sd_rounds.proofs.dumper.Dumper.hand_in.Goals.{then-ends, else-ends}

pub returns-then-counts-clause-hands : goal.returns-then-counts-clause-hands
returns-then-counts-clause-hands c = grind (arith, handed, same_dumping, then-ends, ended, else-ends, goes_on, counted_one)

pub invariant_of-self-then-counts : goal.invariant_of-self-then-counts
invariant_of-self-then-counts c = elim c.if-ends.branch [
  | then-ends w ↦ subst (λ (o : Option Checkpoint). AreRunning (c.if-ends.self-inside.since_freeze + 1) (option_map running_of o)) (sym (ap (λ d. d.checkpoint) w.self-inside-is ∙ w.end.ensures)) tt
  | else-ends w ↦ subst (λ (o : Option Checkpoint). AreRunning (c.if-ends.self-inside.since_freeze + 1) (option_map running_of o)) (sym (ap (λ d. d.checkpoint) w.self-inside-is))
      (subst (λ n. IsRunning n (running_of c.hand_in-progress.new.self))
      (sym (counted_one (running_of c.in-Some.checkpoint) c.if-ends.self-inside.since_freeze c.self.inside.since_freeze (sym c.is_frozen-counts.ensures.frozen ∙ c.if-counts.true)
      (ap (λ d. d.since_freeze) w.self-inside-is)))
      (hands_running c.self.inside.since_freeze (running_of c.in-Some.checkpoint) (running_of c.hand_in-progress.new.self) c.args.outcome c.hand_in-progress.result
      (its_running c.self.inside.since_freeze c.self.inside.checkpoint c.in-Some.checkpoint c.self.invariant c.in-Some.is) c.hand_in-progress.ensures
      (sym c.is_strange.ensures ∙ c.if-is_strange.false) (sym c.ends.ensures ∙ w.if-ends.false)))
]

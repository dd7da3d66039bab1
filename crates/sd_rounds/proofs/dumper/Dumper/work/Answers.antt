use Rattle.std.proofs.Common.{Some, refl, sym, ◌∙◌, ap, if◌then◌else◌}
use Rattle.std.specs.Option.{option_map}
use Rattle.sd_rounds.specs.declared.image_step.ImageStep.TheVariants.{Copied, Visited}
use Rattle.sd_rounds.specs.declared.pass_step.PassStep.TheVariants.{Copied as SectorCopied, Visited as PageVisited}
use Rattle.sd_rounds.specs.Dumper.{Dumping, running_of}
use Rattle.sd_rounds.proofs.DumperLemmas.{same_dumping, worked, works_running}
use Rattle.sd_rounds.proofs.PassStepLemmas.{its_running, same_at, step_at, still_running}
use Rattle.sd_rounds.proofs.dumper.Dumper.work.Goals as goal

pub invariant_of-self-in-Some-Visited : goal.invariant_of-self-in-Some-Visited
invariant_of-self-in-Some-Visited c =
    works_running c.self.inside.since_freeze c.args.image.serial c.args.image.state c.args.ticket
    (running_of c.in-Some.checkpoint) (running_of c.pass_step.new.self) c.args.memory.now c.pass_step.new.memory (Visited c.in-Some-Visited.visit)
    (its_running c.self.inside.since_freeze c.self.inside.checkpoint c.in-Some.checkpoint c.self.invariant c.in-Some.is)
    (step_at (running_of c.in-Some.checkpoint) (running_of c.pass_step.new.self) c.args.memory.now c.pass_step.new.memory c.in_ok-visit.field-0 c.in_ok-visit.ensures.works
    c.args.image.serial c.args.image.state c.args.ticket c.in-Some-Visited.field-0 (PageVisited c.in-Some-Visited.visit) c.in-Some-Visited.is c.in-Some-Visited.field-0-is)

pub invariant_of-self-in-Some-Copied : goal.invariant_of-self-in-Some-Copied
invariant_of-self-in-Some-Copied c =
    works_running c.self.inside.since_freeze c.args.image.serial c.args.image.state c.args.ticket
    (running_of c.in-Some.checkpoint) (running_of c.pass_step.new.self) c.args.memory.now c.pass_step.new.memory (Copied c.in-Some-Copied.copied)
    (its_running c.self.inside.since_freeze c.self.inside.checkpoint c.in-Some.checkpoint c.self.invariant c.in-Some.is)
    (step_at (running_of c.in-Some.checkpoint) (running_of c.pass_step.new.self) c.args.memory.now c.pass_step.new.memory c.in_ok-visit.field-0 c.in_ok-visit.ensures.works
    c.args.image.serial c.args.image.state c.args.ticket c.in-Some-Copied.field-0 (SectorCopied c.in-Some-Copied.copied) c.in-Some-Copied.is c.in-Some-Copied.field-0-is)

pub invariant_of-self-in-None : goal.invariant_of-self-in-None
invariant_of-self-in-None c =
    worked c.self.inside.since_freeze c.counted-self-inside.result c.args.image.serial c.args.image.state c.args.ticket (Some c.pass_step.new.self) c.pass_step.new.self
    (running_of c.work.new.self) c.pass_step.new.memory c.pass_step.new.memory c.work.result
    (still_running c.self.inside.since_freeze (running_of c.in-Some.checkpoint) (running_of c.pass_step.new.self)
    (same_at (running_of c.in-Some.checkpoint) (running_of c.pass_step.new.self) c.args.memory.now c.pass_step.new.memory c.in_ok-visit.field-0 c.in_ok-visit.ensures.works c.in-None.is)
    (its_running c.self.inside.since_freeze c.self.inside.checkpoint c.in-Some.checkpoint c.self.invariant c.in-Some.is)) refl
    (c.counted-self-inside.ensures ∙ ap (λ b. if b then 0 else c.self.inside.since_freeze) c.is_to_freeze.ensures)
    c.work.ensures.works c.work.ensures.err

pub returns-in-Some-Visited-clause-works : goal.returns-in-Some-Visited-clause-works
returns-in-Some-Visited-clause-works c = rw c.in-Some-Visited.visit-is (record {
  running = running_of c.in-Some.checkpoint;
  was = ap (λ (d : Dumping). d.running) (sym c.self.view_is) ∙ ap (option_map running_of) c.in-Some.is;
  next = running_of c.pass_step.new.self;
  works = step_at (running_of c.in-Some.checkpoint) (running_of c.pass_step.new.self) c.args.memory.now c.pass_step.new.memory c.in_ok-visit.field-0 c.in_ok-visit.ensures.works
      c.args.image.serial c.args.image.state c.args.ticket c.in-Some-Visited.field-0 (PageVisited c.in-Some-Visited.visit) c.in-Some-Visited.is c.in-Some-Visited.field-0-is;
  is = same_dumping _ _ _ _ refl (ap (λ (d : Dumping). d.since_freeze) c.self.view_is);
})

pub returns-in-Some-Copied-clause-works : goal.returns-in-Some-Copied-clause-works
returns-in-Some-Copied-clause-works c = rw c.in-Some-Copied.copied-is (record {
  running = running_of c.in-Some.checkpoint;
  was = ap (λ (d : Dumping). d.running) (sym c.self.view_is) ∙ ap (option_map running_of) c.in-Some.is;
  next = running_of c.pass_step.new.self;
  works = step_at (running_of c.in-Some.checkpoint) (running_of c.pass_step.new.self) c.args.memory.now c.pass_step.new.memory c.in_ok-visit.field-0 c.in_ok-visit.ensures.works
      c.args.image.serial c.args.image.state c.args.ticket c.in-Some-Copied.field-0 (SectorCopied c.in-Some-Copied.copied) c.in-Some-Copied.is c.in-Some-Copied.field-0-is;
  is = same_dumping _ _ _ _ refl (ap (λ (d : Dumping). d.since_freeze) c.self.view_is);
})

use Rattle.std.proofs.Common.{subst}
use Rattle.sd_import.specs.Changes.{ChangesOnly}
use Rattle.sd_import.proofs.ChangeLemmas.{changes_further, may_further}
use Rattle.sd_import.proofs.importing.Import.unmap_others.Goals as goal

pub loop-run-preserved : goal.loop-run-preserved
loop-run-preserved g c = record {
  changes = changes_further g.D.Disk c.args.self.now.space c.args.world.now c.loop-run.world c.ask-in-loop-run.new.world c.loop-run.invariant.changes
      (subst (λ s. ChangesOnly g.D.Disk s c.loop-run.world c.ask-in-loop-run.new.world) c.loop-run.invariant.space c.in_ok-ask.ensures.changes);
  goes_on = may_further g.D.Disk c.args.world.now c.loop-run.world c.ask-in-loop-run.new.world c.loop-run.invariant.goes_on c.ask-in-loop-run.ensures.goes_on;
  space = c.loop-run.invariant.space;
}

pub returns-in_err-ask-clause-goes_on : goal.returns-in_err-ask-clause-goes_on
returns-in_err-ask-clause-goes_on g c = may_further g.D.Disk c.args.world.now c.loop-run.world c.ask-in-loop-run.new.world c.loop-run.invariant.goes_on c.ask-in-loop-run.ensures.goes_on

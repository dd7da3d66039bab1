use Rattle.std.proofs.Common.{subst, ◌∙◌}
use Rattle.sd_import.specs.Changes.{ChangesOnly}
use Rattle.sd_import.proofs.ChangeLemmas.{changes_further, may_further}
use Rattle.sd_import.proofs.importing.Import.take_segment.Goals as goal

pub loop-k-preserved : goal.loop-k-preserved
loop-k-preserved g c = record {
  changes = changes_further g.D.Disk c.args.self.now.space c.args.world.now c.loop-k.world c.take_page.new.world c.loop-k.invariant.changes
      (subst (λ s. ChangesOnly g.D.Disk s c.loop-k.world c.take_page.new.world) c.loop-k.invariant.space c.in_ok-take_page.ensures.changes);
  goes_on = may_further g.D.Disk c.args.world.now c.loop-k.world c.take_page.new.world c.loop-k.invariant.goes_on c.take_page.ensures.goes_on;
  space = c.in_ok-take_page.ensures.space ∙ c.loop-k.invariant.space;
}

pub returns-in_err-take_page-clause-goes_on : goal.returns-in_err-take_page-clause-goes_on
returns-in_err-take_page-clause-goes_on g c = may_further g.D.Disk c.args.world.now c.loop-k.world c.take_page.new.world c.loop-k.invariant.goes_on c.take_page.ensures.goes_on

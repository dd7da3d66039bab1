use Rattle.std.proofs.Common.{subst, ◌∙◌}
use Rattle.sd_import.specs.Changes.{ChangesOnly}
use Rattle.sd_import.proofs.ChangeLemmas.{changes_further, may_further}
use Rattle.sd_import.proofs.importing.Import.take_core.Goals as goal

pub loop-area-init : goal.loop-area-init
loop-area-init g c = record { changes = c.in_ok-unmap_others.ensures.changes; goes_on = c.unmap_others.ensures.goes_on; space = c.in_ok-unmap_others.ensures.space }

pub loop-area-preserved : goal.loop-area-preserved
loop-area-preserved g c = record {
  changes = changes_further g.D.Disk c.args.self.now.space c.args.world.now c.loop-area.world c.take_area.new.world c.loop-area.invariant.changes
      (subst (λ s. ChangesOnly g.D.Disk s c.loop-area.world c.take_area.new.world) c.loop-area.invariant.space c.in_ok-take_area.ensures.changes);
  goes_on = may_further g.D.Disk c.args.world.now c.loop-area.world c.take_area.new.world c.loop-area.invariant.goes_on c.take_area.ensures.goes_on;
  space = c.in_ok-take_area.ensures.space ∙ c.loop-area.invariant.space;
}

pub returns-in_err-take_area-clause-goes_on : goal.returns-in_err-take_area-clause-goes_on
returns-in_err-take_area-clause-goes_on g c = may_further g.D.Disk c.args.world.now c.loop-area.world c.take_area.new.world c.loop-area.invariant.goes_on c.take_area.ensures.goes_on

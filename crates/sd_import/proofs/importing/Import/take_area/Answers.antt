use Rattle.std.proofs.Common.{OnOk, refl, subst, sym, ◌∙◌}
use Rattle.sd_import.specs.Changes.{ChangesOnly, MayGoOn}
use Rattle.sd_import.proofs.ChangeLemmas.{changes_further, may_further, then_ok}
use Rattle.sd_import.proofs.importing.Import.take_area.Goals.{then-area+in_ok-protect, else-area}
use Rattle.sd_import.proofs.importing.Import.take_area.Goals as goal

pub loop-segment-init : goal.loop-segment-init
loop-segment-init g c =
    let space = c.args.self.now.space in
    record {
      changes = elim c.if-area.branch [
        | then-area+in_ok-protect w ↦ subst (ChangesOnly g.D.Disk space c.args.world.now) (sym w.world-is)
            (changes_further g.D.Disk space c.args.world.now c.map_missing.new.world w.protect.new.world c.in_ok-now.ensures.changes w.in_ok-protect.ensures.changes)
        | else-area w ↦ subst (ChangesOnly g.D.Disk space c.args.world.now) (sym w.world-is) c.in_ok-now.ensures.changes
      ];
      goes_on = elim c.if-area.branch [
        | then-area+in_ok-protect w ↦ subst (MayGoOn g.D.Disk c.args.world.now) (sym w.world-is)
            (may_further g.D.Disk c.args.world.now c.map_missing.new.world w.protect.new.world c.map_missing.ensures.goes_on w.protect.ensures.goes_on)
        | else-area w ↦ subst (MayGoOn g.D.Disk c.args.world.now) (sym w.world-is) c.map_missing.ensures.goes_on
      ];
      space = refl;
    }

pub loop-segment-preserved : goal.loop-segment-preserved
loop-segment-preserved g c = record {
  changes = changes_further g.D.Disk c.args.self.now.space c.args.world.now c.loop-segment.world c.take_segment.new.world c.loop-segment.invariant.changes
      (subst (λ s. ChangesOnly g.D.Disk s c.loop-segment.world c.take_segment.new.world) c.loop-segment.invariant.space c.in_ok-take_segment.ensures.changes);
  goes_on = may_further g.D.Disk c.args.world.now c.loop-segment.world c.take_segment.new.world c.loop-segment.invariant.goes_on c.take_segment.ensures.goes_on;
  space = c.in_ok-take_segment.ensures.space ∙ c.loop-segment.invariant.space;
}

pub returns-clause-changes : goal.returns-clause-changes
returns-clause-changes g c = then_ok g.D.Disk c.args.self.now.space c.args.world.now c.loop-segment.world c.protect-2.new.world c.protect-2.result
    c.loop-segment.invariant.changes
    (subst (λ s. OnOk c.protect-2.result (ChangesOnly g.D.Disk s c.loop-segment.world c.protect-2.new.world)) c.loop-segment.invariant.space c.protect-2.ensures.changes)

pub returns-in_err-take_segment-clause-goes_on : goal.returns-in_err-take_segment-clause-goes_on
returns-in_err-take_segment-clause-goes_on g c = may_further g.D.Disk c.args.world.now c.loop-segment.world c.take_segment.new.world c.loop-segment.invariant.goes_on c.take_segment.ensures.goes_on

pub returns-in_err-protect-clause-goes_on : goal.returns-in_err-protect-clause-goes_on
returns-in_err-protect-clause-goes_on g c = may_further g.D.Disk c.args.world.now c.map_missing.new.world c.protect.new.world c.map_missing.ensures.goes_on c.protect.ensures.goes_on

pub returns-clause-goes_on : goal.returns-clause-goes_on
returns-clause-goes_on g c = may_further g.D.Disk c.args.world.now c.loop-segment.world c.protect-2.new.world c.loop-segment.invariant.goes_on c.protect-2.ensures.goes_on

use Rattle.std.proofs.Common.{List, sym, ◌∙◌, subst, ap, arith}
use Rattle.sd_areas.specs.declared.area.Area.{Area}
use Rattle.sd_areas.specs.Runs.{IsExtended}
use Rattle.sd_areas.proofs.Extended.{extended_none, extended_apart, extended_joined, last_within}
use Rattle.sd_areas.proofs.runs.push_area.Goals as goal
use Rattle.sd_areas.proofs.runs.push_area.Goals.{in-Some+else-continues+in_ok-push-2, in_default}

pub continues-requires : goal.continues-requires
continues-requires c = last_within _ _ _ c.in-Some.ensures.items c.requires.maximal

pub returns-then-continues : goal.returns-then-continues
returns-then-continues c = record {
  ok = subst (λ (n : List Area). IsExtended c.args.areas.now.items n c.args.area) (sym c.in_ok-push.ensures.items)
      (extended_joined _ _ _ _ c.longer.result c.in-Some.ensures.items c.requires.maximal c.requires.pages c.requires.within (sym c.if-continues.ensures)
      c.longer.ensures.first c.longer.ensures.count c.longer.ensures.prot);
}

pub returns : goal.returns
returns c = record {
  ok = subst (λ (n : List Area). IsExtended c.args.areas.now.items n c.args.area) (sym c.in_ok-push-3.ensures.items)
      (elim c.match-pop.branch [
        | in-Some+else-continues+in_ok-push-2 w ↦
            extended_apart _ _ _ _ _ w.in-Some.ensures.items (ap (λ v. v.items) w.areas-is ∙ w.in_ok-push-2.ensures.items) c.requires.maximal c.requires.behind c.requires.pages c.requires.within (sym w.if-continues.ensures)
        | in_default w ↦ extended_none _ _ _ _ w.in_default.ensures.items (ap (λ v. v.items) w.areas-is) (omega (arith, c.pop.new.self.ok.0, w.in_default.ensures.cases.1)) c.requires.pages c.requires.within
      ]);
}

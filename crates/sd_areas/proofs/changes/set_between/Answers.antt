use Rattle.std.proofs.Common.{List, Some, refl, subst, sym, arith}
use Rattle.std.specs.Prelude.{slice_range, None}
use Rattle.std.specs.List.{splice}
use Rattle.std.proofs.lemmas.Result.{on_ok_weaker}
use Rattle.sd_areas.specs.declared.area.Area.{Area}
use Rattle.sd_areas.specs.Areas.{AreMaximal}
use Rattle.sd_areas.specs.Runs.{HasRun}
use Rattle.sd_areas.proofs.Around.{middle_maximal, run_spliced, run_fits, run_refused, on_ok_both, if_err_weaker, all_around_at, same_run_fits}
use Rattle.sd_areas.proofs.Alike.{not_all, on_err_always}
use Rattle.sd_areas.proofs.Split.{split_refused}
use Rattle.sd_areas.proofs.changes.set_between.Goals as goal

pub has_area-requires-clause-maximal : goal.has_area-requires-clause-maximal
has_area-requires-clause-maximal c = grind (arith, middle_maximal)

pub with_area-requires-clause-maximal : goal.with_area-requires-clause-maximal
with_area-requires-clause-maximal c = grind (arith, middle_maximal)

run : (c : goal.After-replace) → HasRun c.args.areas.now.items (splice c.args.areas.now.items c.args.from c.args.to c.in_ok-pieces.pieces.items) c.args.area
run c =
    run_spliced c.args.areas.now.items c.in_ok-pieces.pieces.items c.args.from c.args.to c.args.area c.requires.maximal c.requires.ordered c.requires.inside c.requires.below c.requires.above
    (subst (λ (l : List Area). HasRun (slice_range l c.args.from c.args.to) c.in_ok-pieces.pieces.items c.args.area) c.deref-2.ensures.value c.in_ok-pieces.ensures)

pub returns-clause-maximal : goal.returns-clause-maximal
returns-clause-maximal c = on_ok_weaker c.replace.result (λ e. subst (AreMaximal None) (sym e) (run c).maximal) c.replace.ensures.ok

pub returns-clause-ok : goal.returns-clause-ok
returns-clause-ok c = on_ok_both c.replace.result (λ e few. run_fits _ _ _ c.args.area (run c) e few) c.replace.ensures.ok c.replace.ensures.few

pub returns-clause-refused : goal.returns-clause-refused
returns-clause-refused c = if_err_weaker c.replace.result (λ e why. run_refused _ _ c.args.area e (run c) why) c.replace.ensures.refused

pub returns-then-has_area-clause-ok : goal.returns-then-has_area-clause-ok
returns-then-has_area-clause-ok c = same_run_fits c.args.areas.now.items c.args.area c.requires.maximal c.requires.few ((all_around_at c.args.areas.now.items _ _ _ _ c.args.area.first c.args.area.count (Some c.args.area.prot) refl c.deref.ensures.value c.requires.maximal c.requires.ordered c.requires.inside c.requires.below c.requires.above).0 (c.has_area.ensures.0 c.if-has_area.true))

pub returns-in_err-pieces-clause-some : goal.returns-in_err-pieces-clause-some
returns-in_err-pieces-clause-some c = on_err_always c.from_residual.result (not_all c.has_area.result c.has_area.ensures (all_around_at c.args.areas.now.items _ _ _ _ c.args.area.first c.args.area.count (Some c.args.area.prot) refl c.deref.ensures.value c.requires.maximal c.requires.ordered c.requires.inside c.requires.below c.requires.above) c.if-has_area.false)

pub returns-clause-some : goal.returns-clause-some
returns-clause-some c = on_err_always c.replace.result (not_all c.has_area.result c.has_area.ensures (all_around_at c.args.areas.now.items _ _ _ _ c.args.area.first c.args.area.count (Some c.args.area.prot) refl c.deref.ensures.value c.requires.maximal c.requires.ordered c.requires.inside c.requires.below c.requires.above) c.if-has_area.false)

pub returns-then-is_split-clause-refused : goal.returns-then-is_split-clause-refused
returns-then-is_split-clause-refused c = split_refused c.args.areas.now.items _ c.args.from c.args.to c.args.area c.deref-then-len-gt-AREA_LIMIT.ensures.value c.requires.maximal c.requires.ordered c.requires.inside c.requires.below c.requires.above c.requires.pages (c.is_split.ensures c.if-is_split.true) (omega (arith, c.if-len-gt-AREA_LIMIT.true, c.len.ensures, c.args.areas.now.ok.0))

pub returns-then-is_split-clause-some : goal.returns-then-is_split-clause-some
returns-then-is_split-clause-some c = not_all c.has_area.result c.has_area.ensures (all_around_at c.args.areas.now.items _ _ _ _ c.args.area.first c.args.area.count (Some c.args.area.prot) refl c.deref.ensures.value c.requires.maximal c.requires.ordered c.requires.inside c.requires.below c.requires.above) c.if-has_area.false

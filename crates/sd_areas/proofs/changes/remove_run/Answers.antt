use Rattle.std.proofs.Common.{subst, sym, arith}
use Rattle.std.specs.Prelude.{None}
use Rattle.std.specs.List.{splice}
use Rattle.std.proofs.lemmas.Result.{on_ok_weaker}
use Rattle.sd_areas.specs.Areas.{AreMaximal}
use Rattle.sd_areas.specs.Runs.{HasGap}
use Rattle.sd_areas.proofs.Around.{middle_maximal, gap_spliced_at, gap_fits, gap_refused, on_ok_both, if_err_weaker, all_around_at, same_gap_fits}
use Rattle.sd_areas.proofs.Alike.{not_none, on_err_always}
use Rattle.sd_areas.proofs.changes.remove_run.Goals as goal

pub meets_area-requires-clause-maximal : goal.meets_area-requires-clause-maximal
meets_area-requires-clause-maximal c = grind (arith, middle_maximal)

pub without_pages-requires-clause-maximal : goal.without_pages-requires-clause-maximal
without_pages-requires-clause-maximal c = grind (arith, middle_maximal)

gap : (c : goal.After-replace) → HasGap c.args.areas.now.items (splice c.args.areas.now.items c.neighbours-from.result.0 c.neighbours-from.result.1 c.in_ok-pieces.pieces.items) c.args.range.first c.args.range.count
gap c =
    let found = c.neighbours-from.ensures in
    gap_spliced_at _ _ _ _ _ _ c.args.range.first c.args.range.count c.deref.ensures.value c.deref-3.ensures.value c.requires.maximal found.ordered found.within found.below found.above c.in_ok-pieces.ensures

pub returns-clause-maximal : goal.returns-clause-maximal
returns-clause-maximal c = on_ok_weaker c.replace.result (λ e. subst (AreMaximal None) (sym e) (gap c).maximal) c.replace.ensures.ok

pub returns-clause-ok : goal.returns-clause-ok
returns-clause-ok c = on_ok_both c.replace.result (λ e few. gap_fits _ _ _ c.args.range.first c.args.range.count (gap c) e few) c.replace.ensures.ok c.replace.ensures.few

pub returns-clause-refused : goal.returns-clause-refused
returns-clause-refused c = if_err_weaker c.replace.result (λ e why. gap_refused _ _ c.args.range.first c.args.range.count e (gap c) why) c.replace.ensures.refused

pub returns-then-not-meets_area-clause-ok : goal.returns-then-not-meets_area-clause-ok
returns-then-not-meets_area-clause-ok c = same_gap_fits c.args.areas.now.items c.args.range.first c.args.range.count c.requires.maximal c.requires.few ((all_around_at c.args.areas.now.items _ _ _ _ c.args.range.first c.args.range.count None c.deref.ensures.value c.deref-2.ensures.value c.requires.maximal c.neighbours-from.ensures.ordered c.neighbours-from.ensures.within c.neighbours-from.ensures.below c.neighbours-from.ensures.above).0 (c.meets_area.ensures.0 c.if-not-meets_area.true))

pub returns-in_err-pieces-clause-some : goal.returns-in_err-pieces-clause-some
returns-in_err-pieces-clause-some c = on_err_always c.from_residual.result (not_none c.meets_area.result c.meets_area.ensures (all_around_at c.args.areas.now.items _ _ _ _ c.args.range.first c.args.range.count None c.deref.ensures.value c.deref-2.ensures.value c.requires.maximal c.neighbours-from.ensures.ordered c.neighbours-from.ensures.within c.neighbours-from.ensures.below c.neighbours-from.ensures.above) c.if-not-meets_area.false)

pub returns-clause-some : goal.returns-clause-some
returns-clause-some c = on_err_always c.replace.result (not_none c.meets_area.result c.meets_area.ensures (all_around_at c.args.areas.now.items _ _ _ _ c.args.range.first c.args.range.count None c.deref.ensures.value c.deref-2.ensures.value c.requires.maximal c.neighbours-from.ensures.ordered c.neighbours-from.ensures.within c.neighbours-from.ensures.below c.neighbours-from.ensures.above) c.if-not-meets_area.false)

use Rattle.std.proofs.Common.{sym, ◌∙◌, ◌≡◌, true, false, arith}
use Rattle.sd_areas.specs.Pages.{page_of, pages_for}
use Rattle.sd_areas.specs.Areas.{page_map_of}
use Rattle.sd_areas.specs.Calls.{protect_result, within_areas, set_pages, has_hole}
use Rattle.sd_areas.proofs.Calls.{protected_invalid, protected_nothing, protected_outside, protected_hole, set_by_range, hole_test}
use Rattle.sd_areas.proofs.Around.{middle_maximal, hole_around_at}
use Rattle.sd_areas.proofs.Alike.{all_no_hole}
use Rattle.sd_areas.proofs.area_map.AreaMap.protect.Goals as goal

pub returns-then-not-is_page_start-clause-refused : goal.returns-then-not-is_page_start-clause-refused
returns-then-not-is_page_start-clause-refused c = protected_invalid _ _ _ _ (sym c.if-not-is_page_start.ensures)

pub returns-then-bytes-eq0-clause-ok : goal.returns-then-bytes-eq0-clause-ok
returns-then-bytes-eq0-clause-ok c = protected_nothing _ _ _ _ (sym c.if-not-is_page_start.ensures) c.if-bytes-eq0.true

pub returns-in_default-clause-refused : goal.returns-in_default-clause-refused
returns-in_default-clause-refused c = protected_outside _ _ _ _ (sym c.if-not-is_page_start.ensures) c.if-bytes-eq0.false (sym c.in_default.ensures.within)

pub meets_hole-requires-clause-maximal : goal.meets_hole-requires-clause-maximal
meets_hole-requires-clause-maximal c = grind (arith, middle_maximal)

pub returns-then-meets_hole-clause-refused : goal.returns-then-meets_hole-clause-refused
returns-then-meets_hole-clause-refused c = grind (arith, protected_hole, hole_test, hole_around_at)

pub returns-then-meets_hole-clause-same : goal.returns-then-meets_hole-clause-same
returns-then-meets_hole-clause-same c = λ valid inside all. absurd (all_no_hole c.args.self.now _ _ c.args.prot (grind (arith, hole_test, hole_around_at)) all)

full : (c : goal.After-set_between) → has_hole c.args.self.now (page_of c.args.address) (pages_for c.args.bytes) ≡ false
full c = hole_test _ _ _ _ _ _ false c.self.view_is c.in-Some.ensures.first c.in-Some.ensures.count (c.if-meets_hole.ensures
    ∙ hole_around_at c.self.inside.areas.items _ _ _ _ c.in-Some.range.first c.in-Some.range.count c.deref.ensures.value c.deref-2.ensures.value c.self.invariant.0
    c.neighbours-from.ensures.ordered c.neighbours-from.ensures.within c.neighbours-from.ensures.below c.neighbours-from.ensures.above)

gives : (c : goal.After-set_between) → protect_result c.args.self.now c.args.address c.args.bytes c.args.prot ≡ within_areas (set_pages (page_map_of c.self.inside.areas.items) c.with.result.first c.with.result.count c.with.result.prot)
gives c =
    set_by_range c.args.self.now (page_map_of c.self.inside.areas.items) _ _ c.args.prot _ _ c.with.result.prot c.self.view_is (sym c.if-not-is_page_start.ensures) c.if-bytes-eq0.false (sym c.in-Some.ensures.within)
    (full c) (c.with.ensures.first ∙ c.in-Some.ensures.first) (c.with.ensures.count ∙ c.in-Some.ensures.count) c.with.ensures.prot

pub returns-clause-ok : goal.returns-clause-ok
returns-clause-ok c = rw (gives c) c.set_between.ensures.ok

pub returns-clause-refused : goal.returns-clause-refused
returns-clause-refused c = rw (gives c) c.set_between.ensures.refused

pub returns-clause-hole : goal.returns-clause-hole
returns-clause-hole c = λ valid inside hole. absurd (let f : true ≡ false = sym hole ∙ full c in cc)

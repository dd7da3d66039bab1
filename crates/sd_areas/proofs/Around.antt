-- The areas that meet or touch a run of pages, by their places in the list.
use Rattle.std.proofs.Common.{◌≡◌, ◌⊎◌, ◌↔◌, ℕ, zero, suc, ◌+◌, ◌-◌, ◌<◌, ◌≤◌, Bool, true, false, cond, List, [], ◌∷◌, ◌++◌, length, take, drop, get_or, Option, Some, None, Result, Ok, Err, OnOk, IfErr, refl, sym, ap, subst, ◌∙◌, arith}
use Rattle.std.specs.Prelude.{nat_lt, slice_range}
use Rattle.std.specs.List.{splice, AllWithin, position}
use Rattle.std.specs.List.Sorted.{IsPartitionedBy, IsPartitionPoint}
use Rattle.std.specs.FinMap as finmap
use Rattle.std.proofs.lemmas.Bool.{lt-ltb, ltb-true, cond-false}
use Rattle.std.proofs.lemmas.List.{take-append-drop, drop-drop, get_or-drop}
use Rattle.std.proofs.lemmas.List.Quantifiers.{position-Some}
use Rattle.sd_areas.specs.declared.area.Area.{Area}
use Rattle.sd_areas.specs.Pages.{is_within, pages_from}
use Rattle.sd_areas.specs.Areas.{PageMap, prot_in, AreMaximal, page_map_of}
use Rattle.sd_areas.specs.Calls.{AllHave, has_hole, set_pages, remove_pages, within_areas, RefusesInOrder}
use Rattle.sd_areas.specs.declared.errno.Errno.{Errno}
use Rattle.sd_areas.specs.declared.errno.Errno.TheVariants.{Enomem}
use Rattle.sd_areas.specs.declared.errno.AreaError.{AreaError}
use Rattle.sd_areas.specs.declared.errno.AreaError.TheVariants.{Refused, OutOfMemory}
use Rattle.sd_areas.proofs.Calls.{run_is, gap_is, within_ok, within_err}
use Rattle.sd_areas.specs.Runs.{last_after, HasRun, HasGap}
use Rattle.sd_areas.proofs.Find.{later_begins, starts_rise}
use Rattle.sd_areas.proofs.Joined.{EndsBelow, BeginsAbove, AreAround, middle_is, replaced_are, replaced_same, in_middle}
use Rattle.sd_areas.proofs.PagesOf.{get-pages_of}
use Rattle.sd_areas.proofs.Maximal.{inside_parts}
use Rattle.sd_areas.specs.declared.prot.Prot.{Prot}

-- ---- the two searches
-- whether an area ends before a page
abbrev pub ends_by : ℕ → Area → Bool
ends_by page area = nat_lt (area.first + area.count) page

ends_rise : (before : Option Area) (xs : List Area) (i j : ℕ) (d : Area) → AreMaximal before xs → i ≤ j → j < length xs
    → (get_or xs i d).first + (get_or xs i d).count ≤ (get_or xs j d).first + (get_or xs j d).count
ends_rise before (x ∷ xs) zero zero d m l h = omega arith
ends_rise before (x ∷ xs) zero (suc j) d m l h = omega (arith, later_begins (Some x) xs j d m.1 (omega arith))
ends_rise before (x ∷ xs) (suc i) (suc j) d m l h = ends_rise (Some x) xs i j d m.1 (omega arith) (omega arith)
ends_rise before _ _ _ d m l h = absurd (omega arith)

pub ends_parted : (page : ℕ) (xs : List Area) → AreMaximal None xs → IsPartitionedBy (ends_by page) xs
ends_parted page xs m i j d l h e = lt-ltb _ _ (omega (arith, ends_rise None xs i j d m l h, ltb-true _ _ e))

-- ---- the three parts
pub around_is : (xs : List Area) (from to : ℕ) → from ≤ to → take from xs ++ (slice_range xs from to ++ drop to xs) ≡ xs
around_is xs from to l =
    let rest : drop (to - from) (drop from xs) ≡ drop to xs = drop-drop (to - from) from xs ∙ ap (λ n. drop n xs) (omega (arith, l)) in
    ap (λ (ys : List Area). take from xs ++ (slice_range xs from to ++ ys)) (sym rest)
    ∙ ap (λ (ys : List Area). take from xs ++ ys) (take-append-drop (to - from) (drop from xs))
    ∙ take-append-drop from xs

-- the areas so far end below a page
front_below : (before : Option Area) (xs : List Area) (from page : ℕ) → EndsBelow before page → from ≤ length xs
    → AllWithin (λ (area : Area). area.first + area.count < page) xs 0 from → EndsBelow (last_after before (take from xs)) page
front_below before xs zero page b l all = b
front_below before [] (suc from) page b l all = absurd (omega arith)
front_below before (x ∷ xs) (suc from) page b l all =
    front_below (Some x) xs from page (all 0 x (omega arith) (omega arith)) (omega arith) (λ k d low high. all (suc k) d (omega arith) (omega arith))

back_above : (xs : List Area) (to page : ℕ) → AllWithin (λ (area : Area). page < area.first) xs to (length xs) → BeginsAbove (drop to xs) page
back_above [] zero page all = tt
back_above [] (suc to) page all = tt
back_above (x ∷ xs) zero page all = all 0 x (omega arith) (omega arith)
back_above (x ∷ xs) (suc to) page all = back_above xs to page (λ k d low high. all (suc k) d (omega arith) (omega arith))

pub around : (xs : List Area) (from to first count : ℕ) → AreMaximal None xs → from ≤ to → to ≤ length xs
    → AllWithin (λ (area : Area). area.first + area.count < first) xs 0 from → AllWithin (λ (area : Area). first + count < area.first) xs to (length xs)
    → AreAround (take from xs) (slice_range xs from to) (drop to xs) first count
around xs from to first count m l h below above = record {
  maximal = subst (AreMaximal None) (sym (around_is xs from to l)) m;
  below = front_below None xs from first none (omega arith) below;
  above = back_above xs to (first + count) above;
}
  where
    none : EndsBelow None first
    none = tt

pub middle_maximal : (xs : List Area) (from to : ℕ) → AreMaximal None xs → from ≤ to → AreMaximal None (slice_range xs from to)
middle_maximal xs from to m l = middle_is (take from xs) (slice_range xs from to) (drop to xs) (subst (AreMaximal None) (sym (around_is xs from to l)) m)

-- ---- what the calls need
pub run_spliced : (xs pieces : List Area) (from to : ℕ) (area : Area) → AreMaximal None xs → from ≤ to → to ≤ length xs
    → AllWithin (λ (x : Area). x.first + x.count < area.first) xs 0 from → AllWithin (λ (x : Area). area.first + area.count < x.first) xs to (length xs)
    → HasRun (slice_range xs from to) pieces area → HasRun xs (splice xs from to pieces) area
run_spliced xs pieces from to area m l h below above run =
    let parts = around xs from to area.first area.count m l h below above in
    record {
      maximal = replaced_are (take from xs) (slice_range xs from to) pieces (drop to xs) area.first area.count parts run.maximal (λ page out. run.same page ∙ cond-false _ _ _ out);
      same = λ page.
          replaced_same (take from xs) (slice_range xs from to) pieces (drop to xs) area.first area.count (Some area.prot) parts run.same page
          ∙ ap (λ (ys : List Area). cond (is_within area.first area.count page) (Some area.prot) (prot_in ys page)) (around_is xs from to l);
    }

pub gap_spliced : (xs pieces : List Area) (from to first count : ℕ) → AreMaximal None xs → from ≤ to → to ≤ length xs
    → AllWithin (λ (x : Area). x.first + x.count < first) xs 0 from → AllWithin (λ (x : Area). first + count < x.first) xs to (length xs)
    → HasGap (slice_range xs from to) pieces first count → HasGap xs (splice xs from to pieces) first count
gap_spliced xs pieces from to first count m l h below above gap =
    let parts = around xs from to first count m l h below above in
    record {
      maximal = replaced_are (take from xs) (slice_range xs from to) pieces (drop to xs) first count parts gap.maximal (λ page out. gap.same page ∙ cond-false _ _ _ out);
      same = λ page.
          replaced_same (take from xs) (slice_range xs from to) pieces (drop to xs) first count None parts gap.same page
          ∙ ap (λ (ys : List Area). cond (is_within first count page) None (prot_in ys page)) (around_is xs from to l);
    }

pub gap_spliced_at : (xs seen part pieces : List Area) (from to first count : ℕ) → seen ≡ xs → part ≡ xs → AreMaximal None xs → from ≤ to → to ≤ length seen
    → AllWithin (λ (x : Area). x.first + x.count < first) seen 0 from → AllWithin (λ (x : Area). first + count < x.first) seen to (length seen)
    → HasGap (slice_range part from to) pieces first count → HasGap xs (splice xs from to pieces) first count
gap_spliced_at xs seen part pieces from to first count e f m l h below above gap =
    let below' = subst (λ (ys : List Area). AllWithin (λ (x : Area). x.first + x.count < first) ys 0 from) e below in
    let above' = subst (λ (ys : List Area). AllWithin (λ (x : Area). first + count < x.first) ys to (length ys)) e above in
    gap_spliced xs pieces from to first count m l (subst (λ (ys : List Area). to ≤ length ys) e h) below' above' (subst (λ (ys : List Area). HasGap (slice_range ys from to) pieces first count) f gap)

same_holes : (one other : PageMap) (first count : ℕ) → ((page : ℕ) → first ≤ page → page < first + count → finmap.get one page ≡ finmap.get other page) → has_hole one first count ≡ has_hole other first count
unfolding has_hole pages_from
same_holes one other first zero h = refl
same_holes one other first (suc count) h =
    rw (h first (omega arith) (omega arith), same_holes one other (suc first) count (λ page l g. h page (omega arith) (omega arith))) refl

-- a page of the run is as those areas show it
shown_around : (xs : List Area) (from to first count : ℕ) → AreMaximal None xs → from ≤ to → to ≤ length xs
    → AllWithin (λ (x : Area). x.first + x.count < first) xs 0 from → AllWithin (λ (x : Area). first + count < x.first) xs to (length xs)
    → (page : ℕ) → first ≤ page → page < first + count → finmap.get (page_map_of (slice_range xs from to)) page ≡ finmap.get (page_map_of xs) page
shown_around xs from to first count m l h below above page low high =
    let parts = around xs from to first count m l h below above in
    get-pages_of (slice_range xs from to) page
    ∙ sym (in_middle (take from xs) (slice_range xs from to) (drop to xs) first count page parts low high)
    ∙ ap (λ (ys : List Area). prot_in ys page) (around_is xs from to l)
    ∙ sym (get-pages_of xs page)

pub all_around : (xs : List Area) (from to first count : ℕ) (found : Option Prot) → AreMaximal None xs → from ≤ to → to ≤ length xs
    → AllWithin (λ (x : Area). x.first + x.count < first) xs 0 from → AllWithin (λ (x : Area). first + count < x.first) xs to (length xs)
    → AllHave (page_map_of (slice_range xs from to)) first count found ↔ AllHave (page_map_of xs) first count found
all_around xs from to first count found m l h below above =
    let same = shown_around xs from to first count m l h below above in (
      (λ all page e. let parts = inside_parts first count page e in sym (same page parts.0 parts.1) ∙ all page e),
      (λ all page e. let parts = inside_parts first count page e in same page parts.0 parts.1 ∙ all page e),
    )

-- the same of what the code saw of the areas
pub all_around_at : (xs seen part : List Area) (from to first count : ℕ) (found : Option Prot) → seen ≡ xs → part ≡ xs → AreMaximal None xs → from ≤ to → to ≤ length seen
    → AllWithin (λ (x : Area). x.first + x.count < first) seen 0 from → AllWithin (λ (x : Area). first + count < x.first) seen to (length seen)
    → AllHave (page_map_of (slice_range part from to)) first count found ↔ AllHave (page_map_of xs) first count found
all_around_at xs seen part from to first count found e f m l h below above =
    let below' = subst (λ (ys : List Area). AllWithin (λ (x : Area). x.first + x.count < first) ys 0 from) e below in
    let above' = subst (λ (ys : List Area). AllWithin (λ (x : Area). first + count < x.first) ys to (length ys)) e above in
    subst (λ (ys : List Area). AllHave (page_map_of (slice_range ys from to)) first count found ↔ AllHave (page_map_of xs) first count found) (sym f)
    (all_around xs from to first count found m l (subst (λ (ys : List Area). to ≤ length ys) e h) below' above')

pub hole_around : (xs : List Area) (from to first count : ℕ) → AreMaximal None xs → from ≤ to → to ≤ length xs
    → AllWithin (λ (x : Area). x.first + x.count < first) xs 0 from → AllWithin (λ (x : Area). first + count < x.first) xs to (length xs)
    → has_hole (page_map_of (slice_range xs from to)) first count ≡ has_hole (page_map_of xs) first count
hole_around xs from to first count m l h below above =
    same_holes (page_map_of (slice_range xs from to)) (page_map_of xs) first count (shown_around xs from to first count m l h below above)

pub hole_around_at : (xs seen part : List Area) (from to first count : ℕ) → seen ≡ xs → part ≡ xs → AreMaximal None xs → from ≤ to → to ≤ length seen
    → AllWithin (λ (x : Area). x.first + x.count < first) seen 0 from → AllWithin (λ (x : Area). first + count < x.first) seen to (length seen)
    → has_hole (page_map_of (slice_range part from to)) first count ≡ has_hole (page_map_of xs) first count
hole_around_at xs seen part from to first count e f m l h below above = grind (arith, hole_around)

-- what the searches say
pub below_by : (xs : List Area) (i begin first : ℕ) → IsPartitionPoint (λ y. ends_by begin y ≡ true) (λ y. ends_by begin y ≡ false) xs i → begin ≡ first
    → AllWithin (λ (area : Area). area.first + area.count < first) xs 0 i
below_by xs i begin first point e k d low high = omega (arith, e, ltb-true _ _ (point.0 k d low high))

pub above_by : (xs : List Area) (from met begin first count : ℕ) → AreMaximal None xs → position (λ (area : Area). nat_lt (begin + count) area.first) (drop from xs) ≡ Some met → begin ≡ first
    → AllWithin (λ (area : Area). first + count < area.first) xs (from + met) (length xs)
above_by xs from met begin first count m found e k d low high =
    let at = position-Some (λ (area : Area). nat_lt (begin + count) area.first) (drop from xs) met d found in
    let place = get_or-drop from xs met d in
    let there : begin + count < (get_or xs (from + met) d).first = subst (λ (area : Area). begin + count < area.first) place (ltb-true _ _ at.1) in
    omega (arith, e, there, starts_rise None xs (from + met) k d m low high)

-- ---- what the list is afterwards
pub run_fits : (old new placed : List Area) (area : Area) → HasRun old placed area → new ≡ placed → length new ≤ 1024 → within_areas (set_pages (page_map_of old) area.first area.count area.prot) ≡ Ok (page_map_of new)
run_fits old new placed area run e few = grind (arith, run_is, within_ok)

pub gap_fits : (old new placed : List Area) (first count : ℕ) → HasGap old placed first count → new ≡ placed → length new ≤ 1024 → within_areas (remove_pages (page_map_of old) first count) ≡ Ok (page_map_of new)
gap_fits old new placed first count gap e few = grind (arith, gap_is, within_ok)

-- nothing changes where each page of the run is so already
as_before : (b : Bool) (o found : Option Prot) → (b ≡ true → o ≡ found) → o ≡ cond b found o
as_before b o found h = grind arith

pub same_run_fits : (areas : List Area) (area : Area) → AreMaximal None areas → length areas ≤ 1024 → AllHave (page_map_of areas) area.first area.count (Some area.prot)
    → within_areas (set_pages (page_map_of areas) area.first area.count area.prot) ≡ Ok (page_map_of areas)
same_run_fits areas area m few all =
    run_fits areas areas areas area
    (record { maximal = m; same = λ page. as_before (is_within area.first area.count page) _ _ (λ e. sym (get-pages_of areas page) ∙ all page e) }) refl few

pub same_gap_fits : (areas : List Area) (first count : ℕ) → AreMaximal None areas → length areas ≤ 1024 → AllHave (page_map_of areas) first count None
    → within_areas (remove_pages (page_map_of areas) first count) ≡ Ok (page_map_of areas)
same_gap_fits areas first count m few all =
    gap_fits areas areas areas first count
    (record { maximal = m; same = λ page. as_before (is_within first count page) _ _ (λ e. sym (get-pages_of areas page) ∙ all page e) }) refl few

refused_by : (r : Result PageMap Errno) (e : AreaError) (long : Type 0) → (long → r ≡ Err Enomem) → (e ≡ OutOfMemory) ⊎ ((e ≡ Refused Enomem) × long) → RefusesInOrder r e
refused_by r e long full given = grind arith

pub run_refused : (old placed : List Area) (area : Area) (e : AreaError) → HasRun old placed area → (e ≡ OutOfMemory) ⊎ ((e ≡ Refused Enomem) × (1024 < length placed))
    → RefusesInOrder (within_areas (set_pages (page_map_of old) area.first area.count area.prot)) e
run_refused old placed area e run why = refused_by _ e (1024 < length placed) (λ many. ap within_areas (run_is old placed area run) ∙ within_err placed run.maximal many) why

pub gap_refused : (old placed : List Area) (first count : ℕ) (e : AreaError) → HasGap old placed first count → (e ≡ OutOfMemory) ⊎ ((e ≡ Refused Enomem) × (1024 < length placed))
    → RefusesInOrder (within_areas (remove_pages (page_map_of old) first count)) e
gap_refused old placed first count e gap why = refused_by _ e (1024 < length placed) (λ many. ap within_areas (gap_is old placed first count gap) ∙ within_err placed gap.maximal many) why

pub on_ok_both : {A E : Type 0} {P Q S : Type 0} (r : Result A E) → (P → Q → S) → OnOk r P → OnOk r Q → OnOk r S
on_ok_both (Ok x) f p q = f p q
on_ok_both (Err e) f p q = tt

pub if_err_weaker : {A E : Type 0} {P Q : E → Type 0} (r : Result A E) → ((e : E) → P e → Q e) → IfErr r P → IfErr r Q
if_err_weaker r f p = grind arith

-- The areas of a space have as many pages as are mapped.
use Rattle.std.proofs.Common.{◌≡◌, ℕ, zero, suc, ◌+◌, ◌<◌, ◌≤◌, true, ◌&&◌, List, [], ◌∷◌, ◌++◌, map, length, sum_by, Option, Some, None, refl, sym, ◌∙◌, ap, subst, arith, T}
use Rattle.std.specs.List.{flat_map, AllByRecursion}
use Rattle.std.specs.Ordering.{nat_cmp, is_lt}
use Rattle.std.specs.Cmp.{nat_cmp_total}
use Rattle.std.specs.FinMap as finmap
use Rattle.std.specs.FinMap.{is_sorted, same_map, get-from_entries, get-from_sorted, entries-from_sorted, len-entries, nat_cmp-IsAntisymmetric}
use Rattle.std.specs.FinMap.Entries.{below_all}
use Rattle.std.proofs.lemmas.Bool.Decides.{nat_tests}
use Rattle.std.proofs.lemmas.List.{length-append, length-map}
use Rattle.std.proofs.lemmas.List.Sums.{sum_by-cons}
use Rattle.sd_areas.specs.declared.area.Area.{Area}
use Rattle.sd_areas.specs.declared.prot.Prot.{Prot}
use Rattle.sd_areas.specs.Pages.{pages_from}
use Rattle.sd_areas.specs.Areas.{area_pages, AreMaximal, is_area_after, page_map_of}
use Rattle.sd_areas.specs.Laws.{CountLaw}
use Rattle.sd_areas.proofs.PagesOf.{get-pages_of, same_pages}

abbrev Entry : Type 0
Entry = ℕ × Prot

-- each key is at least this
abbrev AreFrom : ℕ → List Entry → Type 0
AreFrom k = AllByRecursion (λ (e : Entry). k ≤ e.0)

from_lower : (k l : ℕ) (es : List Entry) → k ≤ l → AreFrom l es → AreFrom k es
from_lower k l [] le are = tt
from_lower k l (e ∷ es) le are = (omega (arith, le, are.0), from_lower k l es le are.1)

less_by : (a b : ℕ) → a < b → is_lt (nat_cmp a b) ≡ true
less_by a b less = grind (arith, nat_tests)

below_by : (k : ℕ) (es : List Entry) → AreFrom (suc k) es → below_all nat_cmp k es ≡ true
below_by k [] are = refl
below_by k (e ∷ es) are = ap (λ b. b && below_all nat_cmp k es) (less_by k e.0 are.0) ∙ below_by k es are.1

abbrev run_entries : ℕ → ℕ → Prot → List Entry
run_entries first count prot = map (λ page. (page, prot)) (pages_from first count)

run_from : (first count : ℕ) (prot : Prot) (rest : List Entry) → AreFrom (first + count) rest → AreFrom first (run_entries first count prot ++ rest)
unfolding pages_from
run_from first zero prot rest are = from_lower first (first + 0) rest (omega arith) are
run_from first (suc count) prot rest are = (
  omega arith,
  from_lower first (suc first) (run_entries (suc first) count prot ++ rest) (omega arith)
      (run_from (suc first) count prot rest (from_lower (suc first + count) (first + suc count) rest (omega arith) are)),
)

run_sorted : (first count : ℕ) (prot : Prot) (rest : List Entry) → AreFrom (first + count) rest → is_sorted nat_cmp rest ≡ true → is_sorted nat_cmp (run_entries first count prot ++ rest) ≡ true
unfolding pages_from
run_sorted first zero prot rest are sorted = sorted
run_sorted first (suc count) prot rest are sorted =
    let above = from_lower (suc first + count) (first + suc count) rest (omega arith) are in
    ap (λ b. b && is_sorted nat_cmp (run_entries (suc first) count prot ++ rest)) (below_by first (run_entries (suc first) count prot ++ rest) (run_from (suc first) count prot rest above))
    ∙ run_sorted (suc first) count prot rest above sorted

abbrev end_before : Option Area → ℕ
end_before None = 0
end_before (Some area) = area.first + area.count

abbrev area_entries : List Area → List Entry
area_entries areas = flat_map (λ (area : Area). map (λ page. (page, area.prot)) (area_pages area)) areas

begins : (before : Option Area) (area : Area) → is_area_after before area ≡ true → end_before before ≤ area.first
begins before area is = grind arith

areas_from : (before : Option Area) (areas : List Area) → AreMaximal before areas → AreFrom (end_before before) (area_entries areas)
areas_from before [] are = tt
areas_from before (area ∷ areas) are =
    from_lower (end_before before) area.first (area_entries (area ∷ areas)) (begins before area are.0)
    (run_from area.first area.count area.prot (area_entries areas) (areas_from (Some area) areas are.1))

areas_sorted : (before : Option Area) (areas : List Area) → AreMaximal before areas → is_sorted nat_cmp (area_entries areas) ≡ true
areas_sorted before [] are = refl
areas_sorted before (area ∷ areas) are =
    run_sorted area.first area.count area.prot (area_entries areas) (areas_from (Some area) areas are.1) (areas_sorted (Some area) areas are.1)

length-pages_from : (first count : ℕ) → length (pages_from first count) ≡ count
unfolding pages_from
length-pages_from first zero = refl
length-pages_from first (suc count) = ap suc (length-pages_from (suc first) count)

counted : (areas : List Area) → length (area_entries areas) ≡ sum_by (λ (a : Area). a.count) areas
counted [] = refl
counted (area ∷ areas) =
    let front : length (map {B = Entry} (λ page. (page, area.prot)) (area_pages area)) ≡ area.count = length-map {B = Entry} (area_pages area) (λ page. (page, area.prot)) ∙ length-pages_from area.first area.count in
    length-append (map (λ page. (page, area.prot)) (area_pages area)) (area_entries areas)
    ∙ omega (arith, front, counted areas) ∙ sym (sum_by-cons (λ (a : Area). a.count) area areas)

len_of_sorted : (es : List Entry) → is_sorted nat_cmp es ≡ true → finmap.len (finmap.from_entries {R = nat_cmp} es) ≡ length es
len_of_sorted es h =
    let sorted : T (is_sorted nat_cmp es) = subst T (sym h) tt in
    len-entries (finmap.from_entries es)
    ∙ ap length (ap finmap.entries (same_map nat_cmp_total nat_cmp-IsAntisymmetric (finmap.from_entries es) (finmap.from_sorted es) (λ q. get-from_entries nat_cmp_total es q ∙ sym (get-from_sorted nat_cmp es q sorted)))
    ∙ entries-from_sorted nat_cmp es sorted)

len_pages_of : (areas : List Area) → AreMaximal None areas → finmap.len (page_map_of areas) ≡ sum_by (λ (a : Area). a.count) areas
unfolding page_map_of
len_pages_of areas are = len_of_sorted (area_entries areas) (areas_sorted None areas are) ∙ counted areas

pub areas_count : CountLaw
areas_count pages areas are =
    sym (len_pages_of areas are.maximal) ∙ ap finmap.len (same_pages (page_map_of areas) pages (λ page. get-pages_of areas page ∙ are.same page))

-- What a call gives, from the areas that it made.
use Rattle.std.proofs.Common.{◌≡◌, ℕ, ◌<◌, ◌≤◌, Bool, true, false, not, cond, ◌==◌, List, length, Option, Some, None, refl, sym, ap, subst, ◌∙◌, ◌%◌, arith}
use Rattle.std.specs.Prelude.{nat_lt, IsSome, Ok, Err, Result, IfSome, IfOk, IfErr, is_some}
use Rattle.std.specs.Cmp.{nat_cmp_total}
use Rattle.std.specs.FinMap as finmap
use Rattle.std.specs.FinMap.{get-from_entries, get-entries, nat_cmp-IsAntisymmetric, get-retain_keys}
use Rattle.std.proofs.lemmas.Bool.{eq-eqb, ne_eqb, cond-true, cond-false, cases_lt, lt-ltb, le-ltb, not_from_true, not_from_false}
use Rattle.sd_areas.specs.declared.area.Area.{Area}
use Rattle.sd_areas.specs.declared.prot.Prot.{Prot}
use Rattle.sd_areas.specs.Pages.{is_within, page_of, pages_for, is_invalid, is_outside}
use Rattle.sd_areas.specs.Areas.{PageMap, AreMaximal, AreAreasOf, AreInSpace, page_map_of, areas_of}
use Rattle.sd_areas.specs.declared.errno.Errno.TheVariants.{Einval, Enomem}
use Rattle.sd_areas.specs.Calls.{set_pages, remove_pages, within_areas, map_result, unmap_result, has_hole, protect_result}
use Rattle.sd_areas.specs.Runs.{HasRun, HasGap}
use Rattle.std.specs.Option.{ok_or}
use Rattle.sd_areas.specs.declared.errno.Errno.{Errno}
use Rattle.sd_areas.specs.declared.page_range.PageRange.{PageRange}
use Rattle.sd_areas.proofs.PagesOf.{find-run, get-pages_of, pages_of_areas, same_pages}
use Rattle.sd_areas.proofs.Entries.{areas_of_is}
use Rattle.sd_areas.proofs.Put.{none_outside}

pub get-set_pages : (pages : PageMap) (first count : ℕ) (prot : Prot) (page : ℕ) → finmap.get (set_pages pages first count prot) page ≡ cond (is_within first count page) (Some prot) (finmap.get pages page)
unfolding set_pages
get-set_pages pages first count prot page =
    get-from_entries nat_cmp_total _ page ∙ find-run first count prot (finmap.entries pages) page
    ∙ ap (cond (is_within first count page) (Some prot)) (sym (get-entries pages page))

alike : (first count q x : ℕ) → q ≡ x → not (is_within first count x) ≡ not (is_within first count q)
alike first count q x e = ap (λ n. not (is_within first count n)) (sym e)

turned : (b : Bool) (o : Option Prot) → cond (not b) o None ≡ cond b None o
turned b o = grind arith

pub get-remove_pages : (pages : PageMap) (first count page : ℕ) → finmap.get (remove_pages pages first count) page ≡ cond (is_within first count page) None (finmap.get pages page)
unfolding remove_pages
get-remove_pages pages first count page =
    get-retain_keys pages (λ q. not (is_within first count q)) page (λ x e. alike first count page x (nat_cmp-IsAntisymmetric page x e))
    ∙ turned (is_within first count page) (finmap.get pages page)

-- ---- the space of a list of areas
none_some : (o : Option Prot) → o ≡ None → IsSome o → ⊥
none_some o e s = cc

pub areas_in_space : (areas : List Area) → AreMaximal None areas → AreInSpace (page_map_of areas)
areas_in_space areas m page some = grind (arith, cases_lt, none_some, get-pages_of, none_outside)

pub areas_of_pages_of : (areas : List Area) → AreMaximal None areas → areas_of (page_map_of areas) ≡ areas
areas_of_pages_of areas m = areas_of_is (page_map_of areas) areas (areas_in_space areas m) (pages_of_areas areas m)

pub within_ok : (areas : List Area) → AreMaximal None areas → length areas ≤ 1024 → within_areas (page_map_of areas) ≡ Ok (page_map_of areas)
unfolding within_areas
within_ok areas m l = cond-false (nat_lt 1024 (length (areas_of (page_map_of areas)))) (Err Enomem) (Ok (page_map_of areas)) (rw (areas_of_pages_of areas m) (le-ltb 1024 (length areas) l))

pub within_err : (areas : List Area) → AreMaximal None areas → 1024 < length areas → within_areas (page_map_of areas) ≡ Err Enomem
unfolding within_areas
within_err areas m l = cond-true (nat_lt 1024 (length (areas_of (page_map_of areas)))) (Err Enomem) (Ok (page_map_of areas)) (rw (areas_of_pages_of areas m) (lt-ltb 1024 (length areas) l))

pub run_is : (old new : List Area) (area : Area) → HasRun old new area → set_pages (page_map_of old) area.first area.count area.prot ≡ page_map_of new
run_is old new area h = grind (arith, same_pages, get-set_pages, get-pages_of)

pub gap_is : (old new : List Area) (first count : ℕ) → HasGap old new first count → remove_pages (page_map_of old) first count ≡ page_map_of new
gap_is old new first count h = grind (arith, same_pages, get-remove_pages, get-pages_of)

-- ---- `mmap`
pub mapped_invalid : (pages : PageMap) (address bytes : ℕ) (prot : Prot) → is_invalid address bytes ≡ true → map_result pages address bytes prot ≡ Err Einval
unfolding map_result
mapped_invalid pages address bytes prot e = cond-true _ _ _ e

pub mapped_outside : (pages : PageMap) (address bytes : ℕ) (prot : Prot) → is_invalid address bytes ≡ false → is_outside address bytes ≡ true → map_result pages address bytes prot ≡ Err Enomem
unfolding map_result
mapped_outside pages address bytes prot e o = cond-false _ _ _ e ∙ cond-true _ _ _ o

pub mapped_within : (pages : PageMap) (address bytes : ℕ) (prot : Prot) → is_invalid address bytes ≡ false → is_outside address bytes ≡ false → map_result pages address bytes prot ≡ within_areas (set_pages pages (page_of address) (pages_for bytes) prot)
unfolding map_result
mapped_within pages address bytes prot e o = cond-false _ _ _ e ∙ cond-false _ _ _ o

-- ---- what a caller sees
pub shown_areas : (areas shown : List Area) (pages : PageMap) → shown ≡ areas → page_map_of areas ≡ pages → AreMaximal None areas → AreAreasOf pages shown
shown_areas areas shown pages e v m =
    subst (λ (l : List Area). AreAreasOf pages l) (sym e) (subst (λ (p : PageMap). AreAreasOf p areas) v (pages_of_areas areas m))

pub shown_value : (areas shown : List Area) (pages : PageMap) → shown ≡ areas → page_map_of areas ≡ pages → AreMaximal None areas → shown ≡ areas_of pages
shown_value areas shown pages e v m = e ∙ sym (ap areas_of (sym v) ∙ areas_of_pages_of areas m)

-- ---- `munmap`
pub unmapped_invalid : (pages : PageMap) (address bytes : ℕ) → is_invalid address bytes ≡ true → unmap_result pages address bytes ≡ Err Einval
unfolding unmap_result
unmapped_invalid pages address bytes e = cond-true _ _ _ e

pub unmapped_outside : (pages : PageMap) (address bytes : ℕ) → is_invalid address bytes ≡ false → is_outside address bytes ≡ true → unmap_result pages address bytes ≡ Err Einval
unfolding unmap_result
unmapped_outside pages address bytes e o = cond-false _ _ _ e ∙ cond-true _ _ _ o

pub unmapped_within : (pages : PageMap) (address bytes : ℕ) → is_invalid address bytes ≡ false → is_outside address bytes ≡ false → unmap_result pages address bytes ≡ within_areas (remove_pages pages (page_of address) (pages_for bytes))
unfolding unmap_result
unmapped_within pages address bytes e o = cond-false _ _ _ e ∙ cond-false _ _ _ o

-- ---- `mprotect`
pub protected_invalid : (pages : PageMap) (address bytes : ℕ) (prot : Prot) → (address % 4096 == 0) ≡ false → protect_result pages address bytes prot ≡ Err Einval
unfolding protect_result
protected_invalid pages address bytes prot e = cond-true _ _ _ (not_from_false _ e)

pub protected_nothing : (pages : PageMap) (address bytes : ℕ) (prot : Prot) → (address % 4096 == 0) ≡ true → bytes ≡ 0 → protect_result pages address bytes prot ≡ Ok pages
unfolding protect_result
protected_nothing pages address bytes prot e z = cond-false _ _ _ (not_from_true _ e) ∙ cond-true _ _ _ (eq-eqb bytes 0 z)

pub protected_outside : (pages : PageMap) (address bytes : ℕ) (prot : Prot) → (address % 4096 == 0) ≡ true → (bytes ≡ 0 → ⊥) → is_outside address bytes ≡ true → protect_result pages address bytes prot ≡ Err Enomem
unfolding protect_result
protected_outside pages address bytes prot e z o = cond-false _ _ _ (not_from_true _ e) ∙ cond-false _ _ _ (ne_eqb bytes 0 z) ∙ cond-true _ _ _ o

pub protected_hole : (pages : PageMap) (address bytes : ℕ) (prot : Prot) → (address % 4096 == 0) ≡ true → (bytes ≡ 0 → ⊥) → is_outside address bytes ≡ false → has_hole pages (page_of address) (pages_for bytes) ≡ true → protect_result pages address bytes prot ≡ Err Enomem
unfolding protect_result
protected_hole pages address bytes prot e z o h = cond-false _ _ _ (not_from_true _ e) ∙ cond-false _ _ _ (ne_eqb bytes 0 z) ∙ cond-false _ _ _ o ∙ cond-true _ _ _ h

pub protected_within : (pages : PageMap) (address bytes : ℕ) (prot : Prot) → (address % 4096 == 0) ≡ true → (bytes ≡ 0 → ⊥) → is_outside address bytes ≡ false → has_hole pages (page_of address) (pages_for bytes) ≡ false →
    protect_result pages address bytes prot ≡ within_areas (set_pages pages (page_of address) (pages_for bytes) prot)
unfolding protect_result
protected_within pages address bytes prot e z o h = cond-false _ _ _ (not_from_true _ e) ∙ cond-false _ _ _ (ne_eqb bytes 0 z) ∙ cond-false _ _ _ o ∙ cond-false _ _ _ h

-- the test for a hole, as the code makes it
pub hole_test : (pages : PageMap) (old : List Area) (first count address bytes : ℕ) (b : Bool) → page_map_of old ≡ pages → first ≡ page_of address → count ≡ pages_for bytes → b ≡ has_hole (page_map_of old) first count → has_hole pages (page_of address) (pages_for bytes) ≡ b
hole_test pages old first count address bytes b v f n h = rw (← v, ← f, ← n) (sym h)

-- ---- a range by its address and length
pub range_found : (found : Option PageRange) (r : Result PageRange Errno) (past : Errno) (address bytes : ℕ) (P : PageRange → Type 0) → r ≡ ok_or found past → not (is_some found) ≡ is_outside address bytes
    → IfSome found (λ range. range.first ≡ page_of address) → IfSome found (λ range. range.count ≡ pages_for bytes)
    → ((range : PageRange) → is_outside address bytes ≡ false → range.first ≡ page_of address → range.count ≡ pages_for bytes → P range) → IfOk r P
range_found found r past address bytes P e within first count holds = grind arith

pub range_past : (found : Option PageRange) (r : Result PageRange Errno) (past : Errno) (address bytes : ℕ) (P : Errno → Type 0) → r ≡ ok_or found past → not (is_some found) ≡ is_outside address bytes
    → (is_outside address bytes ≡ true → P past) → IfErr r P
range_past found r past address bytes P e within holds = grind arith

pub run_by_range : (pages : PageMap) (address bytes : ℕ) (prot : Prot) (first count : ℕ) → is_invalid address bytes ≡ false → is_outside address bytes ≡ false → first ≡ page_of address → count ≡ pages_for bytes
    → map_result pages address bytes prot ≡ within_areas (set_pages pages first count prot)
run_by_range pages address bytes prot first count valid inside_space f n = mapped_within pages address bytes prot valid inside_space ∙ rw (f, n) refl

pub gap_by_range : (pages : PageMap) (address bytes first count : ℕ) → is_invalid address bytes ≡ false → is_outside address bytes ≡ false → first ≡ page_of address → count ≡ pages_for bytes
    → unmap_result pages address bytes ≡ within_areas (remove_pages pages first count)
gap_by_range pages address bytes first count valid inside_space f n = unmapped_within pages address bytes valid inside_space ∙ rw (f, n) refl

pub set_by_range : (pages held : PageMap) (address bytes : ℕ) (prot : Prot) (first count : ℕ) (put : Prot) → held ≡ pages → (address % 4096 == 0) ≡ true → (bytes ≡ 0 → ⊥) → is_outside address bytes ≡ false
    → has_hole pages (page_of address) (pages_for bytes) ≡ false → first ≡ page_of address → count ≡ pages_for bytes → put ≡ prot
    → protect_result pages address bytes prot ≡ within_areas (set_pages held first count put)
set_by_range pages held address bytes prot first count put v starts some inside_space full f n p =
    protected_within pages address bytes prot starts some inside_space full ∙ rw (v, f, n, p) refl

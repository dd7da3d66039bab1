-- The map of a list of areas, and the areas of a map.
use Rattle.std.proofs.Common.{◌≡◌, ◌≢◌, ℕ, zero, suc, ◌+◌, true, false, cond, List, [], ◌∷◌, ◌++◌, map, Some, None, refl, sym, ap, ◌∙◌, arith, inl, inr}
use Rattle.std.specs.Prelude.{flat_map}
use Rattle.std.specs.Ordering.{nat_cmp, eq_by_cmp}
use Rattle.std.specs.Cmp.{nat_cmp_total}
use Rattle.std.specs.FinMap as finmap
use Rattle.std.specs.FinMap.{find, get-from_entries, same_map, nat_cmp-IsAntisymmetric}
use Rattle.std.proofs.lemmas.Bool.{cond-true, cond-false, cases_lt, cases_order}
use Rattle.std.proofs.lemmas.Bool.Decides.{nat_tests}
use Rattle.sd_areas.specs.declared.area.Area.{Area}
use Rattle.sd_areas.specs.declared.prot.Prot.{Prot}
use Rattle.sd_areas.specs.Pages.{pages_from, is_within}
use Rattle.sd_areas.specs.Areas.{PageMap, area_pages, prot_in, AreMaximal, AreAreasOf, page_map_of}
use Rattle.sd_areas.proofs.Maximal.{inside, below, above}

pub tied : (q k : ℕ) → q ≡ k → eq_by_cmp nat_cmp q k ≡ true
tied q k e = grind (arith, nat_tests)

pub untied : (q k : ℕ) → q ≢ k → eq_by_cmp nat_cmp q k ≡ false
untied q k e = grind (arith, nat_tests)

-- ---- pages of one run
pub find-run : (first count : ℕ) (prot : Prot) (rest : List (ℕ × Prot)) (q : ℕ) → find nat_cmp q (map (λ page. (page, prot)) (pages_from first count) ++ rest) ≡ cond (is_within first count q) (Some prot) (find nat_cmp q rest)
unfolding pages_from
find-run first zero prot rest q = sym (cond-false _ _ _ (elim (cases_lt q first) [ inl l ↦ below first 0 q l | inr g ↦ above first 0 q (omega arith) ]))
find-run first (suc count) prot rest q =
    let later = find-run (suc first) count prot rest q in
    elim (cases_order q first) [
      | inl e ↦ cond-true _ _ _ (tied q first e) ∙ sym (cond-true _ _ _ (inside first (suc count) q (omega arith) (omega arith)))
      | inr (inl l) ↦ cond-false _ _ _ (untied q first (omega arith)) ∙ later ∙ rw (below (suc first) count q (omega arith), below first (suc count) q l) refl
      | inr (inr g) ↦ cond-false _ _ _ (untied q first (omega arith)) ∙ later ∙ (elim (cases_lt q (suc first + count)) [
        | inl l ↦ rw (inside (suc first) count q (omega arith) l, inside first (suc count) q (omega arith) (omega arith)) refl
        | inr o ↦ rw (above (suc first) count q o, above first (suc count) q (omega arith)) refl
      ])
    ]

-- ---- pages of a list of areas
find-areas : (areas : List Area) (q : ℕ) → find nat_cmp q (flat_map (λ (area : Area). map (λ page. (page, area.prot)) (area_pages area)) areas) ≡ prot_in areas q
find-areas [] q = refl
find-areas (area ∷ areas) q = find-run area.first area.count area.prot _ q ∙ ap (cond (is_within area.first area.count q) (Some area.prot)) (find-areas areas q)

pub get-pages_of : (areas : List Area) (page : ℕ) → finmap.get (page_map_of areas) page ≡ prot_in areas page
unfolding page_map_of
get-pages_of areas page = get-from_entries nat_cmp_total _ page ∙ find-areas areas page

pub pages_of_areas : (areas : List Area) → AreMaximal None areas → AreAreasOf (page_map_of areas) areas
pages_of_areas areas m = record { maximal = m; same = λ page. sym (get-pages_of areas page) }

pub same_pages : (m n : PageMap) → ((page : ℕ) → finmap.get m page ≡ finmap.get n page) → m ≡ n
same_pages m n is = same_map nat_cmp_total nat_cmp-IsAntisymmetric m n is

-- the areas of a space's pages give that space
pub pages_again : (pages : PageMap) (areas : List Area) → AreAreasOf pages areas → page_map_of areas ≡ pages
pages_again pages areas h = same_pages _ _ (λ page. get-pages_of areas page ∙ h.same page)

-- Lists of pages, taken off from the front.
use Rattle.std.proofs.Common.{◌≡◌, ℕ, zero, suc, ◌+◌, ◌-◌, ◌<◌, ◌≤◌, false, ◌&&◌, eqb, List, [], ◌∷◌, ◌++◌, length, get_or, take, drop, refl, sym, ap, ◌∙◌, append_assoc, arith}
use Rattle.std.specs.List.{flat_map, list_all}
use Rattle.std.proofs.lemmas.Bool.{ne_eqb, eq-eqb, false_from_ne_true}
use Rattle.std.proofs.lemmas.List.{append-nil, append_cancel_left, drop_more, take_all, take-append-drop}
use Rattle.sd_areas.specs.declared.area.Area.{Area}
use Rattle.sd_areas.specs.Areas.{area_pages}
use Rattle.sd_areas.specs.Pages.{pages_from}
use Rattle.std.proofs.lemmas.Grind.{flat_map-append}
use Rattle.std.proofs.lemmas.Slice.Eq.{bytes_eq-Decides}
use Rattle.sd_image.specs.declared.run.Run.{Run}
use Rattle.sd_image.specs.Table.{run_pages}
use Rattle.sd_image.specs.Reading.{pages_eq}

pub none_left : (first count : ℕ) (areas : List Area) → pages_eq (pages_from first count ++ flat_map area_pages areas) [] ≡ (eqb count 0 && list_all (λ area. eqb area.count 0) areas)
unfolding pages_from
none_left first (suc count) areas = rw (ne_eqb (suc count) 0 (λ e. omega arith)) refl
none_left first zero [] = refl
none_left first zero (area ∷ areas) = none_left area.first area.count areas

-- n pages, and those after them
pub pages_split : (first n m : ℕ) → pages_from first (n + m) ≡ pages_from first n ++ pages_from (first + n) m
unfolding pages_from
pages_split first zero m = let a : zero + m ≡ m = omega arith in let b : first + zero ≡ first = omega arith in rw (a, b) refl
pages_split first (suc n) m =
    let a : suc n + m ≡ suc (n + m) = omega arith in
    let b : first + suc n ≡ suc first + n = omega arith in
    rw (a, b) (ap (λ (x : List ℕ). first ∷ x) (pages_split (suc first) n m))

-- How far the pages of a run were met: `met` of them are after, and the same of the areas' pages.
pub record IsMet (all run left wanted : List ℕ) : Type 0 where
  pub met : List ℕ
  pub of_areas : all ≡ met ++ left
  pub of_run : run ≡ met ++ wanted

-- both go on by the same pages
pub goes_on : (all run : List ℕ) (first page count wanted both next_first next_page : ℕ) (behind : List ℕ) → page ≡ first → both ≤ count → both ≤ wanted → next_first ≡ first + both → next_page ≡ page + both
    → IsMet all run (pages_from page count ++ behind) (pages_from first wanted)
    → IsMet all run (pages_from next_page (count - both) ++ behind) (pages_from next_first (wanted - both))
goes_on all run first page count wanted both next_first next_page behind same a b nf np h =
    let c : both + (count - both) ≡ count = omega arith in
    let w : both + (wanted - both) ≡ wanted = omega arith in
    let left : pages_from page count ≡ pages_from page both ++ pages_from (page + both) (count - both) = ap (pages_from page) (sym c) ∙ pages_split page both (count - both) in
    let right : pages_from first wanted ≡ pages_from first both ++ pages_from (first + both) (wanted - both) = ap (pages_from first) (sym w) ∙ pages_split first both (wanted - both) in
    record {
      met = h.met ++ pages_from first both;
      of_areas = h.of_areas ∙ rw (left, np, same) (ap (λ (x : List ℕ). h.met ++ x) (append_assoc (pages_from first both) (pages_from (first + both) (count - both)) behind) ∙ sym (append_assoc h.met (pages_from first both) (pages_from (first + both) (count - both) ++ behind)));
      of_run = h.of_run ∙ rw (right, nf) (sym (append_assoc h.met (pages_from first both) (pages_from (first + both) (wanted - both))));
    }

-- an area without pages left, and the next one
pub next_area : (all run wanted : List ℕ) (page count next_page : ℕ) (area : Area) (areas rest : List Area) → count ≡ 0 → areas ≡ area ∷ rest → next_page ≡ area.first
    → IsMet all run (pages_from page count ++ flat_map area_pages areas) wanted
    → IsMet all run (pages_from next_page area.count ++ flat_map area_pages rest) wanted
unfolding pages_from
next_area all run wanted page count next_page area areas rest none parts np h = grind arith

-- the run's pages are met, and those of the areas that are left are after them
pub all_met : (all run left : List ℕ) (first wanted : ℕ) → wanted ≡ 0 → IsMet all run left (pages_from first wanted) → all ≡ run ++ left
unfolding pages_from
all_met all run left first wanted none h = grind (arith, append-nil)

-- what is left is not the run's next pages
not_met : (all run left wanted others : List ℕ) → IsMet all run left wanted → all ≡ run ++ others → left ≡ wanted ++ others
not_met all run left wanted others h e = append_cancel_left h.met left (wanted ++ others) (sym h.of_areas ∙ e ∙ ap (λ (x : List ℕ). x ++ others) h.of_run ∙ append_assoc h.met wanted others)

pub other_page : (all run others : List ℕ) (first page count wanted : ℕ) (behind : List ℕ) → 0 < wanted → 0 < count → (page ≡ first → ⊥)
    → IsMet all run (pages_from page count ++ behind) (pages_from first wanted) → all ≡ run ++ others → ⊥
unfolding pages_from
other_page all run others first page (suc count) (suc wanted) behind w c differ h e =
    let k = not_met all run (page ∷ (pages_from (suc page) count ++ behind)) (first ∷ pages_from (suc first) wanted) others h e in
    differ (cc)
other_page all run others first page _ _ behind w c differ h e = absurd (omega arith)

pub no_page : (all run others : List ℕ) (first page count wanted : ℕ) (areas : List Area) → 0 < wanted → count ≡ 0 → length areas ≡ 0
    → IsMet all run (pages_from page count ++ flat_map area_pages areas) (pages_from first wanted) → all ≡ run ++ others → ⊥
unfolding pages_from
no_page all run others first page zero (suc wanted) [] w c none h e =
    let k = not_met all run [] (first ∷ pages_from (suc first) wanted) others h e in
    absurd cc
no_page all run others first page _ _ _ w c none h e = absurd (omega arith)

pub left_over : (xs ys : List ℕ) → pages_eq (xs ++ ys) xs ≡ pages_eq ys []
left_over [] ys = refl
left_over (x ∷ xs) ys = rw (eq-eqb x x refl) (left_over xs ys)

-- all runs are met but some pages are left, or none
pub compares_rest : (all left : List ℕ) (runs : List Run) (i : ℕ) → length runs ≤ i → all ≡ flat_map run_pages (take i runs) ++ left → pages_eq left [] ≡ pages_eq all (flat_map run_pages runs)
compares_rest all left runs i past e = grind (arith, take_all, left_over)

-- the pages of the runs up to a place, those of the run there, and those after
runs_split : (runs : List Run) (i : ℕ) (d : Run) → i < length runs → flat_map run_pages runs ≡ flat_map run_pages (take i runs) ++ (run_pages (get_or runs i d) ++ flat_map run_pages (drop (i + 1) runs))
runs_split runs i d lt =
    let parts : runs ≡ take i runs ++ (get_or runs i d ∷ drop (i + 1) runs) = sym (take-append-drop i runs) ∙ ap (λ (rs : List Run). take i runs ++ rs) (drop_more runs i d lt) in
    ap (flat_map run_pages) parts ∙ flat_map-append run_pages (take i runs) (get_or runs i d ∷ drop (i + 1) runs)

-- a run whose pages are not the next ones
pub differs : (all left : List ℕ) (runs : List Run) (i : ℕ) (run : Run) → i < length runs → run ≡ get_or runs i run → all ≡ flat_map run_pages (take i runs) ++ left
    → ((others : List ℕ) → left ≡ run_pages run ++ others → ⊥) → false ≡ pages_eq all (flat_map run_pages runs)
differs all left runs i run lt is e none =
    let front = flat_map run_pages (take i runs) in
    let behind = flat_map run_pages (drop (i + 1) runs) in
    let split : flat_map run_pages runs ≡ front ++ (run_pages run ++ behind) = runs_split runs i run lt ∙ ap (λ (r : Run). front ++ (run_pages r ++ behind)) (sym is) in
    let not_same : all ≡ flat_map run_pages runs → ⊥ = λ same. none behind (append_cancel_left front left (run_pages run ++ behind) (sym e ∙ same ∙ split)) in
    sym (false_from_ne_true (pages_eq all (flat_map run_pages runs)) (λ t. not_same ((bytes_eq-Decides all (flat_map run_pages runs)).0 t)))

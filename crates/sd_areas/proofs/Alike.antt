-- Runs of pages of which each has the same permissions, or of which none is mapped.
use Rattle.std.proofs.Common.{◌≡◌, ◌↔◌, ℕ, ◌+◌, ◌-◌, ◌<◌, ◌≤◌, Bool, true, false, List, [], ◌∷◌, Option, Some, None, Result, Ok, Err, OnErr, refl, sym, ap, subst, ◌∙◌, arith, inl, inr, max}
use Rattle.std.specs.Prelude.{is_some, ◌&&◌, ◌==◌, nat_le}
use Rattle.std.specs.List.{list_any}
use Rattle.std.proofs.lemmas.Bool.{cases_Bool, cond-false, cases_lt, and_parts, and_from, or_left, or_right, or_parts, leb-true, ltb-true, le-leb, eq-eqb, eqb-true}
use Rattle.sd_areas.specs.declared.area.Area.{Area}
use Rattle.sd_areas.specs.declared.prot.Prot.{Prot}
use Rattle.sd_areas.specs.Pages.{is_within}
use Rattle.sd_areas.specs.Prot.{prot_bits}
use Rattle.sd_areas.specs.Areas.{PageMap, prot_in, AreMaximal, page_map_of}
use Rattle.sd_areas.specs.Calls.{AllHave, has_hole}
use Rattle.sd_areas.specs.Runs.{is_met, is_covering}
use Rattle.sd_areas.proofs.Maximal.{follows_on, same_prot, inside, below, above, inside_parts, none_before}
use Rattle.sd_areas.proofs.Unique.{at_head, below_head, after_differs}
use Rattle.sd_areas.proofs.PagesOf.{get-pages_of}
use Rattle.sd_areas.proofs.Holes.{no_hole}

-- each page of a run has these permissions in a list of areas, or isn't there
abbrev pub AllIn : List Area → ℕ → ℕ → Option Prot → Type 0
AllIn xs begin end found = (page : ℕ) → begin ≤ page → page < end → prot_in xs page ≡ found

-- an area that has no page of the run
unmet_at : (begin end page : ℕ) (x : Area) → is_met begin end x ≡ false → begin ≤ page → page < end → is_within x.first x.count page ≡ false
unmet_at begin end page x e l h = grind (arith, cases_lt, below, above)

unmet : (before : Option Area) (xs : List Area) (begin end : ℕ) → list_any (is_met begin end) xs ≡ false → AllIn xs begin end None
unmet before [] begin end e page l h = refl
unmet before (x ∷ xs) begin end e page l h =
    let parts = or_parts (is_met begin end x) (list_any (is_met begin end) xs) e in
    cond-false _ _ _ (unmet_at begin end page x parts.0 l h) ∙ unmet (Some x) xs begin end parts.1 page l h

met : (before : Option Area) (xs : List Area) (begin end : ℕ) → AreMaximal before xs → begin < end → AllIn xs begin end None → list_any (is_met begin end) xs ≡ false
met before [] begin end m some none = refl
met before (x ∷ xs) begin end m some none =
    elim (cases_Bool (is_met begin end x)) [
      | inl t ↦ absurd (
          let f = follows_on before x m.0 in
          let parts = and_parts _ _ t in
          let low : x.first < end = ltb-true _ _ parts.0 in
          let high : begin - x.first < x.count = ltb-true _ _ parts.1 in
          let there = at_head x xs (max x.first begin) (omega arith) (omega (arith, f.pages)) in
          let gone = none (max x.first begin) (omega arith) (omega arith) in
          cc)
      | inr f ↦ rw f (met (Some x) xs begin end m.1 some (λ page l h. sym (cond-false _ _ _ (unmet_at begin end page x f l h)) ∙ none page l h))
    ]

-- an area that has each page of the run
covering_parts : (begin end : ℕ) (prot : Prot) (x : Area) → is_covering begin end prot x ≡ true → (x.first ≤ begin) × (end ≤ x.first + x.count) × (x.prot ≡ prot)
covering_parts begin end prot x e =
    let outer = and_parts (nat_le x.first begin && nat_le (end - x.first) x.count) (prot_bits x.prot == prot_bits prot) e in
    let inner = and_parts (nat_le x.first begin) (nat_le (end - x.first) x.count) outer.0 in
    let low : x.first ≤ begin = leb-true _ _ inner.0 in
    let high : end - x.first ≤ x.count = leb-true _ _ inner.1 in
    (low, omega arith, same_prot x.prot prot (eqb-true _ _ outer.1))

covering_from : (begin end : ℕ) (prot : Prot) (x : Area) → x.first ≤ begin → end ≤ x.first + x.count → x.prot ≡ prot → is_covering begin end prot x ≡ true
covering_from begin end prot x low high same =
    let fits : end - x.first ≤ x.count = omega arith in
    and_from (nat_le x.first begin && nat_le (end - x.first) x.count) (prot_bits x.prot == prot_bits prot)
    (and_from (nat_le x.first begin) (nat_le (end - x.first) x.count) (le-leb _ _ low) (le-leb _ _ fits)) (eq-eqb _ _ (ap prot_bits same))

covering_at : (before : Option Area) (xs : List Area) (begin end page : ℕ) (prot : Prot) → AreMaximal before xs → list_any (is_covering begin end prot) xs ≡ true → begin ≤ page → page < end → prot_in xs page ≡ Some prot
covering_at before [] begin end page prot m e l h = cc
covering_at before (x ∷ xs) begin end page prot m e l h =
    elim (cases_Bool (is_covering begin end prot x)) [
      | inl t ↦ (
          let parts = covering_parts begin end prot x t in
          at_head x xs page (omega (arith, parts.0)) (omega (arith, parts.1)) ∙ ap Some parts.2)
      | inr f ↦ (
          let here : list_any (is_covering begin end prot) xs ≡ true = grind (arith, f, e) in
          let rest = covering_at (Some x) xs begin end page prot m.1 here l h in
          elim (cases_lt page (x.first + x.count)) [
            | inl early ↦ absurd (let gone = none_before (Some x) xs page m.1 early in cc)
            | inr late ↦ cond-false _ _ _ (above x.first x.count page late) ∙ rest
          ])
    ]

-- an area that has the first page of the run has all of them
first_covered : (x : Area) (xs : List Area) (begin end : ℕ) (prot : Prot) → AreMaximal (Some x) xs → begin < end → AllIn (x ∷ xs) begin end (Some prot) → x.first ≤ begin → begin < x.first + x.count → is_covering begin end prot x ≡ true
first_covered x xs begin end prot m some all low high =
    let there = at_head x xs begin low high in
    let found = all begin (omega arith) some in
    let same : x.prot ≡ prot = cc in
    elim (cases_lt (x.first + x.count) end) [
      | inl short ↦ absurd (after_differs x xs m (sym (cond-false _ _ _ (above x.first x.count (x.first + x.count) (omega arith))) ∙ all (x.first + x.count) (omega arith) short ∙ ap Some (sym same)))
      | inr long ↦ covering_from begin end prot x low long same
    ]

covered : (before : Option Area) (xs : List Area) (begin end : ℕ) (prot : Prot) → AreMaximal before xs → begin < end → AllIn xs begin end (Some prot) → list_any (is_covering begin end prot) xs ≡ true
covered before [] begin end prot m some all = absurd (let gone = all begin (omega arith) some in cc)
covered before (x ∷ xs) begin end prot m some all =
    elim (cases_lt begin x.first) [
      | inl early ↦ absurd (let gone = below_head before x xs begin m early in let there = all begin (omega arith) some in cc)
      | inr low ↦ elim (cases_lt begin (x.first + x.count)) [
        | inl high ↦ or_left (is_covering begin end prot x) (list_any (is_covering begin end prot) xs) (first_covered x xs begin end prot m.1 some all low high)
        | inr late ↦ or_right (is_covering begin end prot x) (list_any (is_covering begin end prot) xs)
            (covered (Some x) xs begin end prot m.1 some (λ page l h. sym (cond-false _ _ _ (above x.first x.count page (omega arith))) ∙ all page l h))
      ]
    ]

-- the same of the pages that the areas show
pub all_shown : (xs : List Area) (first count : ℕ) (found : Option Prot) → AllIn xs first (first + count) found → AllHave (page_map_of xs) first count found
all_shown xs first count found all page e = let parts = inside_parts first count page e in get-pages_of xs page ∙ all page parts.0 parts.1

pub all_listed : (xs : List Area) (first count : ℕ) (found : Option Prot) → AllHave (page_map_of xs) first count found → AllIn xs first (first + count) found
all_listed xs first count found all page l h = sym (get-pages_of xs page) ∙ all page (inside first count page l h)

pub meets_none : (r : Bool) (xs : List Area) (begin first count : ℕ) → r ≡ list_any (is_met begin (begin + count)) xs → begin ≡ first → AreMaximal None xs → 0 < count
    → (r ≡ false) ↔ AllHave (page_map_of xs) first count None
meets_none r xs begin first count e f m some = (
  (λ none. subst (λ (n : ℕ). AllHave (page_map_of xs) n count None) f (all_shown xs begin count None (unmet None xs begin (begin + count) (sym e ∙ none)))),
  (λ all. e ∙ met None xs begin (begin + count) m (omega arith) (all_listed xs begin count None (subst (λ (n : ℕ). AllHave (page_map_of xs) n count None) (sym f) all))),
)

pub covers_all : (r : Bool) (xs : List Area) (begin first count : ℕ) (prot : Prot) → r ≡ list_any (is_covering begin (begin + count) prot) xs → begin ≡ first → AreMaximal None xs → 0 < count
    → (r ≡ true) ↔ AllHave (page_map_of xs) first count (Some prot)
covers_all r xs begin first count prot e f m some = (
  (λ one. subst (λ (n : ℕ). AllHave (page_map_of xs) n count (Some prot)) f (all_shown xs begin count (Some prot) (λ page l h. covering_at None xs begin (begin + count) page prot m (sym e ∙ one) l h))),
  (λ all. e ∙ covered None xs begin (begin + count) prot m (omega arith) (all_listed xs begin count (Some prot) (subst (λ (n : ℕ). AllHave (page_map_of xs) n count (Some prot)) (sym f) all))),
)

-- a run whose pages have permissions has no hole
pub all_no_hole : (pages : PageMap) (first count : ℕ) (prot : Prot) → has_hole pages first count ≡ true → AllHave pages first count (Some prot) → ⊥
all_no_hole pages first count prot hole all =
    let full = no_hole pages first count (λ page l h. ap is_some (all page (inside first count page l h))) in
    cc

-- what a test found of some areas holds of all of them
pub not_all : {P Q : Type 0} (r : Bool) → (r ≡ true) ↔ P → P ↔ Q → r ≡ false → Q → ⊥
not_all r test same bad all = let good = test.1 (same.1 all) in cc

pub not_none : {P Q : Type 0} (r : Bool) → (r ≡ false) ↔ P → P ↔ Q → r ≡ true → Q → ⊥
not_none r test same bad none = let good = test.1 (same.1 none) in cc

pub on_err_always : {A E P : Type 0} (r : Result A E) → P → OnErr r P
on_err_always (Ok x) p = tt
on_err_always (Err e) p = p

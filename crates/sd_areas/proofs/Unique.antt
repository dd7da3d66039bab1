-- A space has one list of areas, and it is the one that `areas_of` makes.
use Rattle.std.proofs.Common.{◌≡◌, ℕ, ◌+◌, ◌<◌, ◌≤◌, List, [], ◌∷◌, Option, Some, None, refl, sym, ap, subst, ◌∙◌, arith, inl, inr}
use Rattle.std.proofs.lemmas.Bool.{cases_Bool, cond-true, cond-false, cases_lt, cases_order}
use Rattle.sd_areas.specs.declared.area.Area.{Area}
use Rattle.sd_areas.specs.declared.prot.Prot.{Prot}
use Rattle.sd_areas.specs.Prot.{prot_bits}
use Rattle.sd_areas.specs.Areas.{PageMap, prot_in, AreMaximal, AreAreasOf}
use Rattle.sd_areas.proofs.Maximal.{follows_on, touching, inside, below, above, inside_parts, none_before}

-- ---- one list
pub at_head : (x : Area) (xs : List Area) (page : ℕ) → x.first ≤ page → page < x.first + x.count → prot_in (x ∷ xs) page ≡ Some x.prot
at_head x xs page l h = cond-true _ _ _ (inside x.first x.count page l h)

pub below_head : (before : Option Area) (x : Area) (xs : List Area) (page : ℕ) → AreMaximal before (x ∷ xs) → page < x.first → prot_in (x ∷ xs) page ≡ None
below_head before x xs page m l = cond-false _ _ _ (below x.first x.count page l) ∙ none_before (Some x) xs page m.1 (omega arith)

-- the page after an area has no permissions, or others
pub after_differs : (x : Area) (xs : List Area) → AreMaximal (Some x) xs → prot_in xs (x.first + x.count) ≡ Some x.prot → ⊥
after_differs x [] m e = cc
after_differs x (z ∷ zs) m e =
    let f = follows_on (Some x) z m.0 in
    elim (cases_lt (x.first + x.count) z.first) [
      | inl l ↦ (let none = below_head (Some x) z zs (x.first + x.count) m l in cc)
      | inr g ↦ (
          let touch : x.first + x.count ≡ z.first = omega (arith, f.behind) in
          let there = at_head z zs (x.first + x.count) (omega arith) (omega (arith, f.pages)) in
          let same : x.prot ≡ z.prot = cc in
          touching x z m.0 touch (ap prot_bits same))
    ]

same_area : (x y : Area) → x.first ≡ y.first → x.count ≡ y.count → x.prot ≡ y.prot → x ≡ y
same_area x y f n p = λ i. record { first = f i; count = n i; prot = p i }

first_not_below : (before : Option Area) (x y : Area) (xs ys : List Area) → AreMaximal before (x ∷ xs) → AreMaximal before (y ∷ ys) → ((page : ℕ) → prot_in (x ∷ xs) page ≡ prot_in (y ∷ ys) page) → x.first < y.first → ⊥
first_not_below before x y xs ys m n is l =
    let f = follows_on before x m.0 in
    let there = at_head x xs x.first (omega arith) (omega (arith, f.pages)) in
    let none = below_head before y ys x.first n l in
    let both = is x.first in
    cc

count_not_below : (before : Option Area) (x y : Area) (xs ys : List Area) → AreMaximal before (x ∷ xs) → AreMaximal before (y ∷ ys) → ((page : ℕ) → prot_in (x ∷ xs) page ≡ prot_in (y ∷ ys) page) → x.first ≡ y.first → x.prot ≡ y.prot → x.count < y.count → ⊥
count_not_below before x y xs ys m n is e p l = grind (arith, cond-false, above, at_head, after_differs)

equal_unless : (a b : ℕ) → (a < b → ⊥) → (b < a → ⊥) → a ≡ b
equal_unless a b f g = elim (cases_order a b) [ inl e ↦ e | inr (inl l) ↦ absurd (f l) | inr (inr l) ↦ absurd (g l) ]

some_same : (p q : Prot) → Some p ≡ Some q → p ≡ q
some_same p q e = cc

same_heads : (before : Option Area) (x y : Area) (xs ys : List Area) → AreMaximal before (x ∷ xs) → AreMaximal before (y ∷ ys) → ((page : ℕ) → prot_in (x ∷ xs) page ≡ prot_in (y ∷ ys) page) → x ≡ y
same_heads before x y xs ys m n is =
    let back : (page : ℕ) → prot_in (y ∷ ys) page ≡ prot_in (x ∷ xs) page = λ page. sym (is page) in
    let f = follows_on before x m.0 in
    let g = follows_on before y n.0 in
    let first : x.first ≡ y.first = equal_unless _ _ (first_not_below before x y xs ys m n is) (first_not_below before y x ys xs n m back) in
    let prot : x.prot ≡ y.prot = some_same _ _ (sym (at_head x xs x.first (omega arith) (omega (arith, f.pages))) ∙ is x.first ∙ at_head y ys x.first (omega arith) (omega (arith, g.pages))) in
    same_area x y first (equal_unless _ _ (count_not_below before x y xs ys m n is first prot) (count_not_below before y x ys xs n m back (sym first) (sym prot))) prot

same_tails : (x : Area) (xs ys : List Area) → AreMaximal (Some x) xs → AreMaximal (Some x) ys → ((page : ℕ) → prot_in (x ∷ xs) page ≡ prot_in (x ∷ ys) page) → (page : ℕ) → prot_in xs page ≡ prot_in ys page
same_tails x xs ys m n is page = grind (arith, cases_Bool, inside_parts, none_before, cond-false)

-- areas that give each page the same permissions are the same
pub same_areas : (before : Option Area) (xs ys : List Area) → AreMaximal before xs → AreMaximal before ys → ((page : ℕ) → prot_in xs page ≡ prot_in ys page) → xs ≡ ys
same_areas before [] [] m n is = refl
same_areas before [] (y ∷ ys) m n is =
    let f = follows_on before y n.0 in
    let there = at_head y ys y.first (omega arith) (omega (arith, f.pages)) in
    let both = is y.first in
    absurd (cc)
same_areas before (x ∷ xs) [] m n is =
    let f = follows_on before x m.0 in
    let there = at_head x xs x.first (omega arith) (omega (arith, f.pages)) in
    let both = is x.first in
    absurd (cc)
same_areas before (x ∷ xs) (y ∷ ys) m n is =
    let e = same_heads before x y xs ys m n is in
    let at : AreMaximal (Some x) ys = subst (λ (a : Area). AreMaximal (Some a) ys) (sym e) n.1 in
    let alike : (page : ℕ) → prot_in (x ∷ xs) page ≡ prot_in (x ∷ ys) page = λ page. subst (λ (a : Area). prot_in (x ∷ xs) page ≡ prot_in (a ∷ ys) page) (sym e) (is page) in
    ap (λ a. a ∷ xs) e ∙ ap (λ l. y ∷ l) (same_areas (Some x) xs ys m.1 at (same_tails x xs ys m.1 at alike))

pub one_list : (pages : PageMap) (xs ys : List Area) → AreAreasOf pages xs → AreAreasOf pages ys → xs ≡ ys
one_list pages xs ys a b = same_areas None xs ys a.maximal b.maximal (λ page. a.same page ∙ sym (b.same page))

-- What is known of areas that rise and are maximal.
use Rattle.std.proofs.Common.{◌≡◌, ◌≢◌, ℕ, ◌+◌, ◌<◌, ◌≤◌, ◌^◌, ◌%◌, ◌/◌, Bool, true, false, cond, ◌==◌, List, [], ◌∷◌, ◌++◌, Option, Some, None, refl, sym, ap, ◌∙◌, arith, inl, inr}
use Rattle.std.specs.Prelude.{IsTrue, if◌then◌else◌}
use Rattle.std.proofs.lemmas.Bool.{and_parts, and_from, or_right, lt-ltb, le-leb, ltb-true, leb-true, eq-eqb, ne_eqb, not_from_false, lt-leb, le-ltb, cases_Bool, cond-true, cond-false, and_left, and_right}
use Rattle.sd_areas.specs.declared.area.Area.{Area}
use Rattle.sd_areas.specs.declared.prot.Prot.{Prot}
use Rattle.sd_areas.specs.Pages.{is_within}
use Rattle.sd_areas.specs.Prot.{prot_bits}
use Rattle.sd_areas.specs.Areas.{prot_in, is_area_after, AreMaximal}
use Rattle.sd_areas.specs.Runs.{last_after, area_end, is_area_continued}

-- permissions are known by their bits
prot_with : ℕ → Prot
prot_with n = record { read = n % 2 == 1; write = n / 2 % 2 == 1; execute = n / 4 == 1 }

prot_made : (r w x : Bool) → prot_with (prot_bits (record { read = r; write = w; execute = x })) ≡ record { read = r; write = w; execute = x }
unfolding prot_with
prot_made r w x = grind arith

pub same_prot : (p q : Prot) → prot_bits p ≡ prot_bits q → p ≡ q
same_prot p q e = sym (prot_made p.read p.write p.execute) ∙ ap prot_with e ∙ prot_made q.read q.write q.execute

pub record FollowsOn (before : Option Area) (area : Area) : Type 0 where
  pub pages : 0 < area.count
  pub within : area.first + area.count ≤ 2 ^ 35
  pub behind : area_end before ≤ area.first

pub follows_on : (before : Option Area) (area : Area) → IsTrue (is_area_after before area) → FollowsOn before area
follows_on before area h = grind arith

-- two areas that touch have other permissions
pub touching : (b area : Area) → IsTrue (is_area_after (Some b) area) → b.first + b.count ≡ area.first → prot_bits b.prot ≢ prot_bits area.prot
touching b area h e same = grind arith

-- after a gap, or with other permissions
pub comes_after : (before : Option Area) (area : Area) → 0 < area.count → area.first + area.count ≤ 2 ^ 35 → area_end before < area.first → IsTrue (is_area_after before area)
comes_after before area c w g = grind arith

pub first_area : (area : Area) → 0 < area.count → area.first + area.count ≤ 2 ^ 35 → IsTrue (is_area_after None area)
first_area area c w = and_from _ _ (and_from _ _ (lt-ltb _ _ c) (le-leb _ _ w)) refl

pub touches_after : (b area : Area) → 0 < area.count → area.first + area.count ≤ 2 ^ 35 → b.first + b.count ≡ area.first → prot_bits b.prot ≢ prot_bits area.prot → IsTrue (is_area_after (Some b) area)
touches_after b area c w e n = and_from _ _ (and_from _ _ (lt-ltb _ _ c) (le-leb _ _ w)) (or_right _ _ (and_from _ _ (eq-eqb _ _ e) (not_from_false _ (ne_eqb _ _ n))))

-- an area that doesn't continue the one before it follows it
pub follows_apart : (b area : Area) → 0 < area.count → area.first + area.count ≤ 2 ^ 35 → b.first + b.count ≤ area.first → is_area_continued b area ≡ false → IsTrue (is_area_after (Some b) area)
follows_apart b area c w le apart = grind arith

-- ---- pages within a run
pub inside : (first count page : ℕ) → first ≤ page → page < first + count → is_within first count page ≡ true
inside first count page l h = and_from _ _ (le-leb _ _ l) (lt-ltb _ _ h)

pub below : (first count page : ℕ) → page < first → is_within first count page ≡ false
below first count page l = and_left _ _ (lt-leb _ _ l)

pub above : (first count page : ℕ) → first + count ≤ page → is_within first count page ≡ false
above first count page l = and_right _ _ (le-ltb _ _ l)

pub inside_parts : (first count page : ℕ) → is_within first count page ≡ true → (first ≤ page) × (page < first + count)
inside_parts first count page h = let p = and_parts _ _ h in (leb-true _ _ p.0, ltb-true _ _ p.1)

-- ---- lists
pub last_after-append : (before : Option Area) (xs : List Area) (y : Area) → last_after before (xs ++ y ∷ []) ≡ Some y
last_after-append before [] y = refl
last_after-append before (x ∷ xs) y = last_after-append (Some x) xs y

pub AreMaximal-append : (before : Option Area) (xs : List Area) (y : Area) → AreMaximal before xs → IsTrue (is_area_after (last_after before xs) y) → AreMaximal before (xs ++ y ∷ [])
AreMaximal-append before [] y m h = (h, tt)
AreMaximal-append before (x ∷ xs) y m h = (m.0, AreMaximal-append (Some x) xs y m.1 h)

pub AreMaximal-front : (before : Option Area) (xs : List Area) (y : Area) → AreMaximal before (xs ++ y ∷ []) → AreMaximal before xs × IsTrue (is_area_after (last_after before xs) y)
AreMaximal-front before [] y m = (tt, m.0)
AreMaximal-front before (x ∷ xs) y m = let r = AreMaximal-front (Some x) xs y m.1 in ((m.0, r.0), r.1)

-- the last area ends no sooner than what stands before
pub end_grows : (before : Option Area) (xs : List Area) → AreMaximal before xs → area_end before ≤ area_end (last_after before xs)
end_grows before [] m = omega arith
end_grows before (x ∷ xs) m = omega (arith, follows_on before x m.0, end_grows (Some x) xs m.1)

-- no area has a page below the end of what stands before
pub none_before : (before : Option Area) (xs : List Area) (page : ℕ) → AreMaximal before xs → page < area_end before → prot_in xs page ≡ None
none_before before [] page m l = refl
none_before before (x ∷ xs) page m l =
    let f = follows_on before x m.0 in
    cond-false _ _ _ (below x.first x.count page (omega arith)) ∙ none_before (Some x) xs page m.1 (omega arith)

-- nor one at the end of the last
pub none_stands_after : (before : Option Area) (xs : List Area) (page : ℕ) → AreMaximal before xs → area_end (last_after before xs) ≤ page → prot_in xs page ≡ None
none_stands_after before [] page m l = refl
none_stands_after before (x ∷ xs) page m l =
    let g = end_grows (Some x) xs m.1 in
    cond-false _ _ _ (above x.first x.count page (omega arith)) ∙ none_stands_after (Some x) xs page m.1 l

-- the last area's pages are no other's
pub prot_in-append : (before : Option Area) (xs : List Area) (y : Area) (page : ℕ) → AreMaximal before xs → area_end (last_after before xs) ≤ y.first →
    prot_in (xs ++ y ∷ []) page ≡ (if is_within y.first y.count page then Some y.prot else prot_in xs page)
prot_in-append before [] y page m l = refl
prot_in-append before (x ∷ xs) y page m l =
    let g = end_grows (Some x) xs m.1 in
    let rest = prot_in-append (Some x) xs y page m.1 l in
    elim (cases_Bool (is_within x.first x.count page)) [
      | inl t ↦
          let out : is_within y.first y.count page ≡ false = below y.first y.count page (omega (arith, inside_parts x.first x.count page t)) in
          cond-true _ _ _ t ∙ sym (cond-true _ _ _ t) ∙ sym (cond-false _ _ _ out)
      | inr f ↦ cond-false _ _ _ f ∙ rest ∙ ap (cond (is_within y.first y.count page) (Some y.prot)) (sym (cond-false _ _ _ f))
    ]

-- The area that has a page, found by its place.
use Rattle.std.proofs.Common.{◌≡◌, ℕ, zero, suc, ◌-◌, ◌<◌, ◌≤◌, Bool, true, false, cond, List, [], ◌∷◌, length, get_or, Option, Some, None, refl, sym, ap, ◌∙◌, arith, leb, ltb}
use Rattle.std.specs.Prelude.{nat_lt}
use Rattle.std.specs.Bool.{then_some}
use Rattle.std.specs.List.Sorted.{IsPartitionedBy, IsPartitionPoint}
use Rattle.std.proofs.lemmas.Bool.{cond-false, leb-true, leb-false, le-leb}
use Rattle.sd_areas.specs.declared.area.Area.{Area}
use Rattle.sd_areas.specs.declared.prot.Prot.{Prot}
use Rattle.sd_areas.specs.Pages.{is_within}
use Rattle.sd_areas.specs.Areas.{prot_in, AreMaximal}
use Rattle.sd_areas.specs.Runs.{area_end}
use Rattle.sd_areas.proofs.Maximal.{follows_on, below, above, none_before}

-- whether an area begins at a page or before it
abbrev pub begins_by : ℕ → Area → Bool
begins_by page area = leb area.first page

-- each later area begins after what stands before
pub later_begins : (before : Option Area) (xs : List Area) (i : ℕ) (d : Area) → AreMaximal before xs → i < length xs → area_end before ≤ (get_or xs i d).first
later_begins before [] i d m l = absurd (omega arith)
later_begins before (x ∷ xs) zero d m l = (follows_on before x m.0).behind
later_begins before (x ∷ xs) (suc i) d m l = omega (arith, follows_on before x m.0, later_begins (Some x) xs i d m.1 (omega arith))

pub starts_rise : (before : Option Area) (xs : List Area) (i j : ℕ) (d : Area) → AreMaximal before xs → i ≤ j → j < length xs → (get_or xs i d).first ≤ (get_or xs j d).first
starts_rise before (x ∷ xs) zero zero d m l h = omega arith
starts_rise before (x ∷ xs) zero (suc j) d m l h = omega (arith, later_begins (Some x) xs j d m.1 (omega arith))
starts_rise before (x ∷ xs) (suc i) (suc j) d m l h = starts_rise (Some x) xs i j d m.1 (omega arith) (omega arith)
starts_rise before _ _ _ d m l h = absurd (omega arith)

pub parted : (page : ℕ) (xs : List Area) → AreMaximal None xs → IsPartitionedBy (begins_by page) xs
parted page xs m i j d l h e = le-leb _ _ (omega (arith, starts_rise None xs i j d m l h, leb-true _ _ e))

-- before the first area there is no page
pub none_at_start : (before : Option Area) (xs : List Area) (d : Area) (page : ℕ) → AreMaximal before xs → (0 < length xs → page < (get_or xs 0 d).first) → prot_in xs page ≡ None
none_at_start before [] d page m h = refl
none_at_start before (x ∷ xs) d page m h =
    let l : page < x.first = h (omega arith) in
    cond-false _ _ _ (below x.first x.count page l) ∙ none_before (Some x) xs page m.1 (omega arith)

pub at_place : (before : Option Area) (xs : List Area) (i : ℕ) (d : Area) (page : ℕ) → AreMaximal before xs → i < length xs → (get_or xs i d).first ≤ page → (suc i < length xs → page < (get_or xs (suc i) d).first) →
    prot_in xs page ≡ cond (is_within (get_or xs i d).first (get_or xs i d).count page) (Some (get_or xs i d).prot) None
at_place before [] i d page m l h g = absurd (omega arith)
at_place before (x ∷ xs) zero d page m l h g = ap (cond (is_within x.first x.count page) (Some x.prot)) (none_at_start (Some x) xs d page m.1 (λ k. g (omega arith)))
at_place before (x ∷ xs) (suc i) d page m l h g =
    let past = later_begins (Some x) xs i d m.1 (omega arith) in
    cond-false _ _ _ (above x.first x.count page (omega arith)) ∙ at_place (Some x) xs i d page m.1 (omega arith) h (λ k. g (omega arith))

-- what a partition of the areas by a page says
pub none_by_place : (xs : List Area) (i page : ℕ) → AreMaximal None xs → IsPartitionPoint (λ y. begins_by page y ≡ true) (λ y. begins_by page y ≡ false) xs i → i ≡ 0 → None ≡ prot_in xs page
none_by_place [] i page m point e = refl
none_by_place (x ∷ xs) i page m point e = sym (none_at_start None (x ∷ xs) x page m (λ h. leb-false _ _ (point.1 0 x (omega arith) h)))

pub place_begins : (xs : List Area) (i page : ℕ) (a : Area) → IsPartitionPoint (λ y. begins_by page y ≡ true) (λ y. begins_by page y ≡ false) xs i → (i ≡ 0 → ⊥) → i ≤ length xs → a ≡ get_or xs (i - 1) a → a.first ≤ page
place_begins xs i page a point some l e = grind arith

pub prot_by_place : (xs : List Area) (i page : ℕ) (a : Area) → AreMaximal None xs → IsPartitionPoint (λ y. begins_by page y ≡ true) (λ y. begins_by page y ≡ false) xs i → (i ≡ 0 → ⊥) → i ≤ length xs → a ≡ get_or xs (i - 1) a →
    prot_in xs page ≡ cond (is_within a.first a.count page) (Some a.prot) None
prot_by_place xs i page a m point some l e = grind (arith, leb-true, leb-false, at_place)

pub within_by : (first count page : ℕ) → first ≤ page → is_within first count page ≡ nat_lt (page - first) count
within_by first count page l = grind arith

some_if : (b : Bool) (p : Prot) → then_some b p ≡ cond b (Some p) None
some_if b p = grind arith

pub found_prot : (r : Option Prot) (xs : List Area) (page m n : ℕ) (a : Area) → r ≡ then_some (ltb (m - n) a.count) a.prot → m ≡ page → n ≡ a.first → a.first ≤ page →
    prot_in xs page ≡ cond (is_within a.first a.count page) (Some a.prot) None → r ≡ prot_in xs page
found_prot r xs page m n a e f g l found = grind arith

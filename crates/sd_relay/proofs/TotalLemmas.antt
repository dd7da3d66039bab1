-- Sums over the views, as one of them changes.
use Rattle.std.proofs.Common.{◌≡◌, ◌≢◌, ℕ, zero, suc, ◌+◌, ◌≤◌, List, [], ◌∷◌, ◌++◌, set, refl, sym, ap, ⊎_elim, ◌⊎◌, inl, inr, arith}
use mathlib.Core.Option.{some, some-injective, some-ne-none}
use lib.ListN.{get_elem?}
use Rattle.sd_relay.specs.declared.hand.Hand.{Hand}
use Rattle.sd_relay.specs.Relays.{total_of_hands}

-- after a change of one view, a look at any finds the new one or the old one
pub at_set : (views : List Hand) (i j : ℕ) (w u : Hand) → get_elem? (set views i w) j ≡ some u → ((j ≡ i) × (w ≡ u)) ⊎ ((j ≢ i) × (get_elem? views j ≡ some u))
at_set [] i j w u e = absurd (some-ne-none u (sym e))
at_set (x ∷ xs) zero zero w u e = inl (refl, some-injective w u e)
at_set (x ∷ xs) (suc i) (suc j) w u e = ⊎_elim (λ t. inl (ap suc t.0, t.1)) (λ t. let n = t.0 in inr ((λ h. n (omega arith)), t.1)) (at_set xs i j w u e)
at_set (x ∷ xs) _ _ w u e = inr ((λ h. omega arith), e)

pub at_snoc : (views : List Hand) (w u : Hand) (j : ℕ) → get_elem? (views ++ w ∷ []) j ≡ some u → (get_elem? views j ≡ some u) ⊎ (w ≡ u)
at_snoc [] w u zero e = inr (some-injective w u e)
at_snoc [] w u (suc j) e = absurd (some-ne-none u (sym e))
at_snoc (x ∷ xs) w u zero e = inl e
at_snoc (x ∷ xs) w u (suc j) e = at_snoc xs w u j e

pub total_set : (f : Hand → ℕ) (views : List Hand) (i : ℕ) (v w : Hand) → get_elem? views i ≡ some v → total_of_hands f (set views i w) + f v ≡ total_of_hands f views + f w
total_set f [] i v w at = absurd (some-ne-none v (sym at))
total_set f (x ∷ xs) zero v w at = let same : f x ≡ f v = ap f (some-injective x v at) in omega arith
total_set f (x ∷ xs) (suc i) v w at = let h = total_set f xs i v w at in omega arith

pub total_snoc : (f : Hand → ℕ) (views : List Hand) (w : Hand) → total_of_hands f (views ++ w ∷ []) ≡ total_of_hands f views + f w
total_snoc f [] w = omega arith
total_snoc f (x ∷ xs) w = let h = total_snoc f xs w in omega arith

-- one view is no more than all
total_least : (f : Hand → ℕ) (views : List Hand) (i : ℕ) (v : Hand) → get_elem? views i ≡ some v → f v ≤ total_of_hands f views
total_least f [] i v at = absurd (some-ne-none v (sym at))
total_least f (x ∷ xs) zero v at = let same : f x ≡ f v = ap f (some-injective x v at) in omega arith
total_least f (x ∷ xs) (suc i) v at = let h = total_least f xs i v at in omega arith

-- f is 0 of each view with no part
abbrev IsOfParts : (Hand → ℕ) → List Hand → Type 0
IsOfParts f views = (i : ℕ) (v : Hand) → get_elem? views i ≡ some v → v.parts ≡ 0 → f v ≡ 0

-- with no part left, f adds up to 0
total_none : (f : Hand → ℕ) (views : List Hand) → IsOfParts f views → total_of_hands (λ v. v.parts) views ≡ 0 → total_of_hands f views ≡ 0
total_none f [] idle none = refl
total_none f (x ∷ xs) idle none =
    let here = idle 0 x refl (omega arith) in
    let rest = total_none f xs (λ i v at. idle (suc i) v at) (omega arith) in omega arith

-- the view with every part has all of f
pub total_alone : (f : Hand → ℕ) (views : List Hand) (i : ℕ) (v : Hand) → IsOfParts f views → get_elem? views i ≡ some v
    → total_of_hands (λ u. u.parts) views ≡ v.parts → total_of_hands f views ≡ f v
total_alone f [] i v idle at whole = absurd (some-ne-none v (sym at))
total_alone f (x ∷ xs) zero v idle at whole =
    let same : x ≡ v = some-injective x v at in
    let parts : x.parts ≡ v.parts = ap (λ (u : Hand). u.parts) same in
    let rest = total_none f xs (λ j u e. idle (suc j) u e) (omega arith) in
    let here : f x ≡ f v = ap f same in omega arith
total_alone f (x ∷ xs) (suc i) v idle at whole =
    let least = total_least (λ u. u.parts) xs i v at in
    let none = idle 0 x refl (omega arith) in
    let rest = total_alone f xs i v (λ j u e. idle (suc j) u e) at (omega arith) in omega arith

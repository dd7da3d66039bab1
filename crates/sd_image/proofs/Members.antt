-- Members of lists.
use Rattle.std.proofs.Common.{◌≡◌, ◌⊎◌, ℕ, ◌<◌, zero, suc, List, [], ◌∷◌, length, map, slice_index_or, Contains, Some, refl, sym, ◌∙◌, ap, subst, inl, inr, arith}
use Rattle.std.specs.List.{flat_map, slice_get}
use Rattle.std.proofs.lemmas.Option.{none-some, same_Some, slice_get-get_or}
use Rattle.std.proofs.lemmas.List.Elements.{Contains-append_cases, Contains-append_left, Contains-append_right}

-- an element at the front, or one among the others
pub contains_front : {X : Type 0} (x : X) (xs : List X) → Contains (x ∷ xs) x
contains_front x xs = (0, omega arith, refl)

pub contains_later : {X : Type 0} (x y : X) (xs : List X) → Contains xs y → Contains (x ∷ xs) y
contains_later x y xs c = (suc c.0, omega arith, c.2)

pub contains_cases : {X : Type 0} (x y : X) (xs : List X) → Contains (x ∷ xs) y → (y ≡ x) ⊎ Contains xs y
contains_cases x y xs c = at_place c.0 c.1 c.2
  where
    at_place : (k : ℕ) → k < length (x ∷ xs) → slice_index_or (x ∷ xs) k y ≡ y → (y ≡ x) ⊎ Contains xs y
    at_place zero within is = inl (sym is)
    at_place (suc k) within is = inr (k, omega arith, is)

pub contains_none : {X : Type 0} (y : X) → Contains [] y → ⊥
contains_none y c = absurd (omega (arith, c.1))

-- ---- places of elements

pub contains_at : {X : Type 0} (xs : List X) (place : ℕ) (x : X) → slice_get xs place ≡ Some x → Contains xs x
contains_at [] place x e = absurd (none-some x e)
contains_at (y ∷ xs) zero x e = (0, omega arith, same_Some y x e)
contains_at (y ∷ xs) (suc place) x e = let rest = contains_at xs place x e in (suc rest.0, omega (arith, rest.1), rest.2)

pub at_contains : {X : Type 0} (xs : List X) (x : X) (c : Contains xs x) → slice_get xs c.0 ≡ Some x
at_contains xs x c = slice_get-get_or xs c.0 x c.1 ∙ ap Some c.2

pub place_in : {X : Type 0} (xs : List X) (x : X) → Contains xs x → (k : ℕ) × (slice_get xs k ≡ Some x)
place_in xs x c = (c.0, at_contains xs x c)

-- ---- what a function makes of elements

-- what it makes of an element is among what it makes of all
pub contains_map : {X Y : Type 0} (f : X → Y) (xs : List X) (x : X) → Contains xs x → Contains (map f xs) (f x)
contains_map f [] x c = absurd (contains_none x c)
contains_map f (y ∷ xs) x c = elim (contains_cases y x xs c) [
  | inl e ↦ subst (λ z. Contains (f y ∷ map f xs) (f z)) (sym e) (contains_front (f y) (map f xs))
  | inr d ↦ contains_later (f y) (f x) (map f xs) (contains_map f xs x d)
]

pub from_map : {X Y : Type 0} (f : X → Y) (xs : List X) (y : Y) → Contains (map f xs) y → (x : X) × Contains xs x × (y ≡ f x)
from_map f [] y c = absurd (contains_none y c)
from_map f (x ∷ xs) y c = elim (contains_cases (f x) y (map f xs) c) [
  | inl e ↦ (x, contains_front x xs, e)
  | inr later ↦ let rest = from_map f xs y later in (rest.0, contains_later x rest.0 xs rest.1, rest.2)
]

-- where it makes a list of each, one of them is among all
pub into_parts : {X Y : Type 0} (f : X → List Y) (xs : List X) (x : X) (y : Y) → Contains xs x → Contains (f x) y → Contains (flat_map f xs) y
into_parts f [] x y c d = absurd (contains_none x c)
into_parts f (z ∷ xs) x y c d = elim (contains_cases z x xs c) [
  | inl e ↦ Contains-append_left (f z) (flat_map f xs) y (subst (λ w. Contains (f w) y) e d)
  | inr later ↦ Contains-append_right (f z) (flat_map f xs) y (into_parts f xs x y later d)
]

pub from_parts : {X Y : Type 0} (f : X → List Y) (xs : List X) (y : Y) → Contains (flat_map f xs) y → (x : X) × Contains xs x × Contains (f x) y
from_parts f [] y c = absurd (contains_none y c)
from_parts f (x ∷ xs) y c = elim (Contains-append_cases (f x) (flat_map f xs) y c) [
  | inl here ↦ (x, contains_front x xs, here)
  | inr later ↦ let rest = from_parts f xs y later in (rest.0, contains_later x rest.0 xs rest.1, rest.2)
]

-- Lists of which one element is set.
use Rattle.std.proofs.Common.{◌≡◌, ℕ, List, [], ◌∷◌, map, Some, slice_get, slice_set, refl, sym, ap, zero, suc}
use Rattle.std.proofs.lemmas.Option.{same_Some}

pub set_itself : {A : Type 0} (xs : List A) (i : ℕ) (x : A) → slice_get xs i ≡ Some x → slice_set xs i x ≡ xs
set_itself [] i x is = refl
set_itself (y ∷ xs) zero x is = ap (λ z. z ∷ xs) (same_Some x y (sym is))
set_itself (y ∷ xs) (suc i) x is = ap (λ zs. y ∷ zs) (set_itself xs i x is)

pub get_set_same : {A : Type 0} (xs : List A) (i : ℕ) (x y : A) → slice_get xs i ≡ Some x → slice_get (slice_set xs i y) i ≡ Some y
get_set_same [] i x y is = absurd cc
get_set_same (z ∷ xs) zero x y is = refl
get_set_same (z ∷ xs) (suc i) x y is = get_set_same xs i x y is

pub set_twice : {A : Type 0} (xs : List A) (i : ℕ) (x y : A) → slice_set (slice_set xs i y) i x ≡ slice_set xs i x
set_twice (z ∷ xs) (suc i) x y = ap (λ zs. z ∷ zs) (set_twice xs i x y)
set_twice _ _ x y = refl

pub map_set : {A B : Type 0} (f : A → B) (xs : List A) (i : ℕ) (x : A) → map f (slice_set xs i x) ≡ slice_set (map f xs) i (f x)
map_set f (y ∷ xs) (suc i) x = ap (λ zs. f y ∷ zs) (map_set f xs i x)
map_set f _ _ x = refl

pub get_map : {A B : Type 0} (f : A → B) (xs : List A) (i : ℕ) (x : A) → slice_get xs i ≡ Some x → slice_get (map f xs) i ≡ Some (f x)
get_map f [] i x is = absurd cc
get_map f (y ∷ xs) zero x is = ap (λ z. Some (f z)) (same_Some y x is)
get_map f (y ∷ xs) (suc i) x is = get_map f xs i x is

-- an element of a mapped list is that of an element
pub map_get : {A B : Type 0} (f : A → B) (xs : List A) (i : ℕ) (y : B) → slice_get (map f xs) i ≡ Some y
    → (x : A) × (slice_get xs i ≡ Some x) × (f x ≡ y)
map_get f [] i y is = absurd cc
map_get f (x ∷ xs) zero y is = (x, refl, same_Some (f x) y is)
map_get f (x ∷ xs) (suc i) y is = map_get f xs i y is

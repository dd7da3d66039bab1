-- Elements of lists by their places.
use Rattle.std.proofs.Common.{◌≡◌, ◌⊎◌, ◌<◌, ◌≤◌, ◌++◌, ℕ, zero, suc, List, [], ◌∷◌, length, take, Option, Some, None, slice_get, refl, sym, ap, arith, inl, inr}
use Rattle.std.proofs.Math.ListN.{set}
use Rattle.std.proofs.lemmas.Option.{same_Some}

pub none_is_some : {A : Type 0} {P : Type 0} (a : A) → (let n : Option A = None in n ≡ Some a) → P
none_is_some a e = absurd (cc)

module _ {X : Type 0} where
  pub got_front : (xs ys : List X) (k : ℕ) (x : X) → slice_get xs k ≡ Some x → slice_get (xs ++ ys) k ≡ Some x
  got_front [] ys k x e = none_is_some x e
  got_front (y ∷ xs) ys zero x e = e
  got_front (y ∷ xs) ys (suc k) x e = got_front xs ys k x e

  pub got_last : (xs : List X) (r : X) → slice_get (xs ++ r ∷ []) (length xs) ≡ Some r
  got_last [] r = refl
  got_last (y ∷ xs) r = got_last xs r

  pub got_push : (xs : List X) (r x : X) (k : ℕ) → slice_get (xs ++ r ∷ []) k ≡ Some x → (slice_get xs k ≡ Some x) ⊎ ((k ≡ length xs) × (x ≡ r))
  got_push [] r x zero e = inr (refl, sym (same_Some r x e))
  got_push [] r x (suc k) e = none_is_some x e
  got_push (y ∷ xs) r x zero e = inl e
  got_push (y ∷ xs) r x (suc k) e = elim (got_push xs r x k e) [ inl was ↦ inl was | inr is ↦ inr (ap suc is.0, is.1) ]

  pub got_set : (xs : List X) (i : ℕ) (y : X) → i < length xs → slice_get (set xs i y) i ≡ Some y
  got_set [] i y l = absurd (omega arith)
  got_set (x ∷ xs) zero y l = refl
  got_set (x ∷ xs) (suc i) y l = got_set xs i y (omega arith)

  pub got_other : (xs : List X) (i j : ℕ) (y : X) → (j ≡ i → ⊥) → slice_get (set xs i y) j ≡ slice_get xs j
  got_other (x ∷ xs) zero zero y n = absurd (n refl)
  got_other (x ∷ xs) (suc i) (suc j) y n = got_other xs i j y (λ e. n (ap suc e))
  got_other _ _ _ y n = refl

  pub got_taken : (xs : List X) (i k : ℕ) (x : X) → slice_get (take i xs) k ≡ Some x → slice_get xs k ≡ Some x
  got_taken [] zero k x e = none_is_some x e
  got_taken (y ∷ xs) (suc i) zero x e = e
  got_taken (y ∷ xs) (suc i) (suc k) x e = got_taken xs i k x e
  got_taken _ _ k x e = none_is_some x e

  pub got_before : (xs : List X) (i k : ℕ) (x : X) → slice_get (take i xs) k ≡ Some x → k < i
  got_before [] zero k x e = none_is_some x e
  got_before (y ∷ xs) (suc i) zero x e = omega arith
  got_before (y ∷ xs) (suc i) (suc k) x e = let less = got_before xs i k x e in omega (arith, less)
  got_before _ _ k x e = none_is_some x e

  pub got_in_front : (xs : List X) (i k : ℕ) (x : X) → k < i → slice_get xs k ≡ Some x → slice_get (take i xs) k ≡ Some x
  got_in_front [] i k x l e = none_is_some x e
  got_in_front (y ∷ xs) zero k x l e = absurd (omega arith)
  got_in_front (y ∷ xs) (suc i) zero x l e = e
  got_in_front (y ∷ xs) (suc i) (suc k) x l e = got_in_front xs i k x (omega arith) e

  pub front_of_front : (xs : List X) (i j : ℕ) → i ≤ j → take i (take j xs) ≡ take i xs
  front_of_front [] zero zero l = refl
  front_of_front [] (suc i) zero l = refl
  front_of_front (x ∷ xs) zero zero l = refl
  front_of_front (x ∷ xs) (suc i) zero l = absurd (omega arith)
  front_of_front (x ∷ xs) (suc i) (suc j) l = ap (λ ys. x ∷ ys) (front_of_front xs i j (omega arith))
  front_of_front _ _ _ l = refl

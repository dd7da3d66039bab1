-- Lists: what is in a place after a change.
use Rattle.std.proofs.Common.{◌≡◌, ℕ, ◌<◌, zero, suc, List, [], ◌∷◌, length, set, Some, refl, ap, arith}
use Rattle.std.specs.List.{slice_get}

module _ {X : Type 0} where
  pub got_set : (xs : List X) (i : ℕ) (y : X) → i < length xs → slice_get (set xs i y) i ≡ Some y
  got_set [] i y l = absurd (omega arith)
  got_set (x ∷ xs) zero y l = refl
  got_set (x ∷ xs) (suc i) y l = got_set xs i y (omega arith)

  pub got_other : (xs : List X) (i j : ℕ) (y : X) → (j ≡ i → ⊥) → slice_get (set xs i y) j ≡ slice_get xs j
  got_other (x ∷ xs) zero zero y n = absurd (n refl)
  got_other (x ∷ xs) (suc i) (suc j) y n = got_other xs i j y (λ e. n (ap suc e))
  got_other _ _ _ y n = refl

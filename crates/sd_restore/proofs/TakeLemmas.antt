-- The part of a list that a loop has passed, and what is left of it.
use Rattle.std.proofs.Common.{◌≡◌, ◌<◌, ◌≤◌, ◌+◌, ◌-◌, replicate, ℕ, zero, suc, List, [], ◌∷◌, ◌++◌, take, drop, length, slice_index_or, refl, sym, ◌∙◌, ap, subst, arith, add-one, Contains, append-nil}
use Rattle.std.proofs.Math.Seq.{take-suc}
use Rattle.std.specs.List.{flat_map, slice_range}
use Rattle.std.proofs.lemmas.Grind.{flat_map-append}
use Rattle.std.proofs.lemmas.List.Elements.{Contains-append_left, Contains-append_right}
use Rattle.std.proofs.lemmas.List.{drop-drop, drop-replicate, drop-take, take-replicate, take-take, take-append-drop}

-- one more was passed
pub taken : {X : Type 0} (xs : List X) (i : ℕ) (x : X) → i < length xs → x ≡ slice_index_or xs i x → take (i + 1) xs ≡ take i xs ++ x ∷ []
taken xs i x less is = ap (λ k. take k xs) (add-one i) ∙ take-suc xs i x less ∙ ap (λ y. take i xs ++ y ∷ []) (sym is)

-- all were passed
pub taken_all : {X : Type 0} (xs : List X) (i : ℕ) → length xs ≤ i → take i xs ≡ xs
taken_all [] zero all = refl
taken_all [] (suc i) all = refl
taken_all (x ∷ xs) zero all = absurd (omega arith)
taken_all (x ∷ xs) (suc i) all = ap (λ zs. x ∷ zs) (taken_all xs i (omega arith))

-- one more was passed, whatever value stands for what is past the end
pub taken_at : {X : Type 0} (xs : List X) (i : ℕ) (d : X) → i < length xs → take (i + 1) xs ≡ take i xs ++ slice_index_or xs i d ∷ []
taken_at xs i d less = ap (λ k. take k xs) (add-one i) ∙ take-suc xs i d less

-- the parts of those that were passed, and of the next
module _ {X Y : Type 0} (f : X → List Y) (xs : List X) (i : ℕ) (x : X) (less : i < length xs) (is : x ≡ slice_index_or xs i x) where
  pub taken_parts : flat_map f (take (i + 1) xs) ≡ flat_map f (take i xs) ++ f x
  taken_parts = ap (flat_map f) (taken xs i x less is) ∙ flat_map-append f (take i xs) (x ∷ []) ∙ ap (λ ys. flat_map f (take i xs) ++ ys) (append-nil (f x))

  pub split_parts : flat_map f xs ≡ (flat_map f (take i xs) ++ f x) ++ flat_map f (drop (i + 1) xs)
  split_parts =
      ap (flat_map f) (sym (take-append-drop (i + 1) xs)) ∙ flat_map-append f (take (i + 1) xs) (drop (i + 1) xs)
      ∙ ap (λ ys. ys ++ flat_map f (drop (i + 1) xs)) taken_parts

  pub among_parts : (y : Y) → Contains (f x) y → Contains (flat_map f xs) y
  among_parts y c = within xs i less is
    where
      within : (xs : List X) (i : ℕ) → i < length xs → x ≡ slice_index_or xs i x → Contains (flat_map f xs) y
      within [] i less is = absurd (omega arith)
      within (z ∷ xs) zero less is = Contains-append_left (f z) (flat_map f xs) y (subst (λ (w : X). Contains (f w) y) is c)
      within (z ∷ xs) (suc i) less is = Contains-append_right (f z) (flat_map f xs) y (within xs i (omega arith) is)

-- the next one is an element
pub contains_index : {X : Type 0} (xs : List X) (i : ℕ) (x : X) → i < length xs → x ≡ slice_index_or xs i x → Contains xs x
contains_index xs i x less is = (i, less, sym is)

-- ---- pages of what was read at once

pub range_within : {X : Type 0} (xs : List X) (a n b m : ℕ) → b + m ≤ n → slice_range (slice_range xs a (a + n)) b (b + m) ≡ slice_range xs (a + b) (a + b + m)
range_within xs a n b m fits =
    ap (λ k. take (b + m - b) (drop b (take k (drop a xs)))) (let e : a + n - a ≡ b + (n - b) = omega (arith, fits) in e)
    ∙ ap (take (b + m - b)) (drop-take b (n - b) (drop a xs))
    ∙ take-take (b + m - b) (n - b) (drop b (drop a xs)) (omega (arith, fits))
    ∙ ap (take (b + m - b)) (drop-drop b a xs)
    ∙ ap (λ k. take k (drop (a + b) xs)) (let e : b + m - b ≡ a + b + m - (a + b) = omega arith in e)

pub range_of_same : {X : Type 0} (x : X) (n b m : ℕ) → b + m ≤ n → slice_range (replicate n x) b (b + m) ≡ replicate m x
range_of_same x n b m fits =
    ap (take (b + m - b)) (drop-replicate b n x) ∙ take-replicate (b + m - b) (n - b) x (omega (arith, fits)) ∙ ap (λ k. replicate k x) (let e : b + m - b ≡ m = omega arith in e)

-- Slots that aren't marked.
use Rattle.std.proofs.Common.{◌≡◌, ℕ, zero, suc, ◌+◌, ◌<◌, ◌∙◌, Bool, true, false, if◌then◌else◌, List, [], ◌∷◌, ◌++◌, length, take, slice_get, slice_index_or, Some, None, refl, sym, ap, arith}
use Rattle.std.proofs.lemmas.Option.{same_Some}
use Rattle.sd_free_slots.specs.Marks.{free_from}

pub free_more : (first : ℕ) (used : List Bool) (i : ℕ) (other : Bool) → i < length used → slice_index_or used i other ≡ false
    → free_from first (take (suc i) used) ≡ free_from first (take i used) ++ (first + i) ∷ []
free_more first [] i other within is = absurd (omega (arith, within))
free_more first (u ∷ used) zero other within is = ap (λ b. if b then [] else first ∷ []) is ∙ ap (λ n. n ∷ []) (omega arith)
free_more first (true ∷ used) (suc i) other within is =
    free_more (first + 1) used i other (omega (arith, within)) is ∙ ap (λ n. free_from (first + 1) (take i used) ++ n ∷ []) (omega arith)
free_more first (false ∷ used) (suc i) other within is =
    ap (λ rest. first ∷ rest) (free_more (first + 1) used i other (omega (arith, within)) is ∙ ap (λ n. free_from (first + 1) (take i used) ++ n ∷ []) (omega arith))

pub free_same : (first : ℕ) (used : List Bool) (i : ℕ) (other : Bool) → i < length used → slice_index_or used i other ≡ true
    → free_from first (take (suc i) used) ≡ free_from first (take i used)
free_same first [] i other within is = absurd (omega (arith, within))
free_same first (u ∷ used) zero other within is = ap (λ b. if b then [] else first ∷ []) is
free_same first (true ∷ used) (suc i) other within is = free_same (first + 1) used i other (omega (arith, within)) is
free_same first (false ∷ used) (suc i) other within is = ap (λ rest. first ∷ rest) (free_same (first + 1) used i other (omega (arith, within)) is)

-- each of them isn't marked, and they rise
pub free_at : (first : ℕ) (used : List Bool) (k slot : ℕ) → slice_get (free_from first used) k ≡ Some slot
    → (at : ℕ) × (slot ≡ first + at) × (slice_get used at ≡ Some false)
free_at first [] k slot is = absurd (let no : None ≡ Some slot = is in cc)
free_at first (true ∷ used) k slot is =
    let later = free_at (first + 1) used k slot is in
    let same = later.1 in
    (suc later.0, omega (arith, same), later.2)
free_at first (false ∷ used) zero slot is = (zero, omega (arith, same), refl)
  where
    same : slot ≡ first
    same = sym (same_Some first slot is)
free_at first (false ∷ used) (suc k) slot is =
    let later = free_at (first + 1) used k slot is in
    let same = later.1 in
    (suc later.0, omega (arith, same), later.2)

pub free_rises : (first : ℕ) (used : List Bool) (i k one other : ℕ) → i < k → slice_get (free_from first used) i ≡ Some one
    → slice_get (free_from first used) k ≡ Some other → one < other
free_rises first [] i k one other below is at = absurd (let no : None ≡ Some one = is in cc)
free_rises first (true ∷ used) i k one other below is at = free_rises (first + 1) used i k one other below is at
free_rises first (false ∷ used) i zero one other below is at = absurd (omega (arith, below))
free_rises first (false ∷ used) zero (suc k) one other below is at =
    let here = same_Some first one is in
    let later = free_at (first + 1) used k other at in
    let same = later.1 in
    omega (arith, here, same)
free_rises first (false ∷ used) (suc i) (suc k) one other below is at = free_rises (first + 1) used i k one other (omega (arith, below)) is at

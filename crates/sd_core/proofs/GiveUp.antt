-- The jobs of all slots are given up, one after the other.
use Rattle.std.proofs.Common.{◌≡◌, ℕ, zero, suc, ◌<◌, ◌≤◌, List, [], ◌∷◌, ◌++◌, length, map, take, drop, slice_index_or, slice_set, refl, ap, arith}
use Rattle.sd_gate.specs.declared.phase.Phase.{Phase}
use Rattle.sd_gate.specs.Phases.{given_up}

-- those of the first slots
abbrev pub given_of : ℕ → List Phase → List Phase
given_of zero phases = phases
given_of (suc n) [] = []
given_of (suc n) (phase ∷ phases) = given_up phase ∷ given_of n phases

pub given_more : (n : ℕ) (phases : List Phase) (other : Phase) → n < length phases
    → slice_set (given_of n phases) n (given_up (slice_index_or (given_of n phases) n other)) ≡ given_of (suc n) phases
given_more n [] other within = absurd (omega (arith, within))
given_more zero (phase ∷ phases) other within = refl
given_more (suc n) (phase ∷ phases) other within = ap (λ all. given_up phase ∷ all) (given_more n phases other (omega (arith, within)))

pub given_all : (n : ℕ) (phases : List Phase) → length phases ≤ n → given_of n phases ≡ map given_up phases
given_all zero [] all = refl
given_all (suc n) [] all = refl
given_all zero (phase ∷ phases) all = absurd (omega (arith, all))
given_all (suc n) (phase ∷ phases) all = ap (λ rest. given_up phase ∷ rest) (given_all n phases (omega (arith, all)))

pub take_all : (n : ℕ) (xs ys : List Phase) → n ≡ length xs → length ys ≡ length xs → take n (xs ++ drop (length xs) ys) ≡ xs
take_all n [] [] is same = ap (λ k. take k []) is
take_all zero (x ∷ xs) ys is same = absurd (omega (arith, is))
take_all (suc n) (x ∷ xs) (y ∷ ys) is same = ap (λ rest. x ∷ rest) (take_all n xs ys (omega (arith, is)) (omega (arith, same)))
take_all _ _ _ is same = absurd (omega (arith, same))

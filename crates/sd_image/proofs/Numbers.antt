-- The numbers of the format: what is read is what was written, and what was written is read again.
use Rattle.std.proofs.Common.{◌≡◌, ℕ, zero, suc, ◌+◌, ◌^◌, ◌<◌, ◌≤◌, true, eqb, List, [], ◌∷◌, length, take, drop, replicate, refl, arith}
use Rattle.std.specs.List.{list_all}
use Rattle.std.proofs.lemmas.Bool.{and_parts, eqb-true}
use Rattle.std.proofs.lemmas.List.{length-take-le, length-drop}
use Rattle.std.proofs.lemmas.Nat.{le_bytes_2, le_bytes_4, le_bytes_8}
use Rattle.byteorder.specs.Endian.{little_number}
use Rattle.byteorder.specs.Numbers.{little_from-take, little_from-lt}
use Rattle.sd_image.specs.Words.{number_bytes, zero_bytes}
use Rattle.sd_image.specs.Reading.{number_at, are_zero}
use Rattle.sd_image.proofs.Steps.{IsBytes, IsBytes-take, IsBytes-drop}

-- the bytes at a place are those of the number there
pub bytes_2 : (place : ℕ) (bytes : List ℕ) → IsBytes bytes → place + 2 ≤ length bytes → number_bytes 2 (number_at 2 place bytes) ≡ take 2 (drop place bytes)
unfolding number_bytes number_at
bytes_2 place bytes fits long =
    let front = take 2 (drop place bytes) in
    let same = little_from-take 0 2 2 (drop place bytes) (omega arith) in
    le_bytes_2 front (little_number 2 (drop place bytes)) (length-take-le 2 (drop place bytes) (omega (arith, length-drop place bytes))) (IsBytes-take 2 (drop place bytes) (IsBytes-drop place bytes fits)) (omega (arith, same))

pub bytes_4 : (place : ℕ) (bytes : List ℕ) → IsBytes bytes → place + 4 ≤ length bytes → number_bytes 4 (number_at 4 place bytes) ≡ take 4 (drop place bytes)
unfolding number_bytes number_at
bytes_4 place bytes fits long =
    let front = take 4 (drop place bytes) in
    let same = little_from-take 0 4 4 (drop place bytes) (omega arith) in
    le_bytes_4 front (little_number 4 (drop place bytes)) (length-take-le 4 (drop place bytes) (omega (arith, length-drop place bytes))) (IsBytes-take 4 (drop place bytes) (IsBytes-drop place bytes fits)) (omega (arith, same))

pub bytes_8 : (place : ℕ) (bytes : List ℕ) → IsBytes bytes → place + 8 ≤ length bytes → number_bytes 8 (number_at 8 place bytes) ≡ take 8 (drop place bytes)
unfolding number_bytes number_at
bytes_8 place bytes fits long =
    let front = take 8 (drop place bytes) in
    let same = little_from-take 0 8 8 (drop place bytes) (omega arith) in
    le_bytes_8 front (little_number 8 (drop place bytes)) (length-take-le 8 (drop place bytes) (omega (arith, length-drop place bytes))) (IsBytes-take 8 (drop place bytes) (IsBytes-drop place bytes fits)) (omega (arith, same))

-- a number of n bytes fits them
pub number_fits : (n place : ℕ) (bytes : List ℕ) → IsBytes bytes → number_at n place bytes < 256 ^ n
unfolding number_at
number_fits n place bytes fits = little_from-lt 0 n (drop place bytes) (IsBytes-drop place bytes fits)

-- zeros, and no other bytes, are zero
pub zeros_are : (n : ℕ) (bytes : List ℕ) → length bytes ≡ n → are_zero bytes ≡ true → zero_bytes n ≡ bytes
unfolding zero_bytes are_zero
zeros_are zero [] e z = refl
zeros_are (suc n) (b ∷ bytes) e z =
    let parts = and_parts (eqb b 0) (list_all (λ x. eqb x 0) bytes) z in
    let rest : replicate n 0 ≡ bytes = zeros_are n bytes (omega arith) parts.1 in
    let head : b ≡ 0 = eqb-true b 0 parts.0 in
    cc
zeros_are _ _ e z = absurd (omega arith)

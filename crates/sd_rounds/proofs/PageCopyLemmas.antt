-- What was copied of a page, where the zeros that come first stand apart.
use Rattle.std.proofs.Common.{◌≡◌, ℕ, zero, suc, ◌+◌, ◌<◌, ◌≤◌, Bool, true, false, ◌==◌, nat_eq, List, [], ◌∷◌, ◌++◌, length, replicate, refl, sym, ◌∙◌, ap, arith}
use Rattle.std.specs.List.{list_all}
use Rattle.std.proofs.lemmas.Bool.{and_parts, eqb-true}
use Rattle.std.proofs.lemmas.List.{length-append, length-replicate}
use mathlib.Core.List.{append-nil}
use Rattle.sd_rounds.specs.PageCopies.{IsPageCopy, copied_bytes}

abbrev are_zeros : List ℕ → Bool
are_zeros bytes = list_all (λ byte. byte == 0) bytes

zeros_are : (n : ℕ) → are_zeros (replicate n 0) ≡ true
zeros_are zero = refl
zeros_are (suc n) = zeros_are n

pub all_zero : (xs : List ℕ) → list_all (λ byte. byte == 0) xs ≡ true → xs ≡ replicate (length xs) 0
all_zero [] e = refl
all_zero (x ∷ xs) e =
    let both = and_parts (nat_eq x 0) (list_all (λ byte. byte == 0) xs) e in
    ap (λ n. n ∷ xs) (eqb-true x 0 both.0) ∙ ap (λ (l : List ℕ). 0 ∷ l) (all_zero xs both.1)

-- zeros alone, where the buffer is empty
bare_bytes : (front : ℕ) (buffer : List ℕ) → buffer ≡ [] → copied_bytes front buffer ≡ replicate front 0
bare_bytes front buffer none = ap (λ b. replicate front 0 ++ b) none ∙ append-nil (replicate front 0)

-- a sector of zeros more
pub more_zeros : (front : ℕ) (buffer bytes : List ℕ) → buffer ≡ [] → length bytes ≡ 512
    → list_all (λ byte. byte == 0) (copied_bytes front buffer ++ bytes) ≡ true → copied_bytes (front + 512) buffer ≡ copied_bytes front buffer ++ bytes
more_zeros front buffer bytes none long zeroed =
    bare_bytes (front + 512) buffer none ∙ ap (λ n. replicate n 0) (sym many) ∙ sym (all_zero (copied_bytes front buffer ++ bytes) zeroed)
  where
    many : length (copied_bytes front buffer ++ bytes) ≡ front + 512
    many = length-append (copied_bytes front buffer) bytes
        ∙ ap (λ n. n + length bytes) (ap (λ b. length b) (bare_bytes front buffer none) ∙ length-replicate front 0)
        ∙ ap (λ n. front + n) long

zeros_kept : (front : ℕ) (buffer : List ℕ) → buffer ≡ [] → front ≤ 4096 → IsPageCopy front buffer true
zeros_kept front buffer none few = grind (arith, bare_bytes, zeros_are)

-- an empty buffer
pub is_bare : (buffer : List ℕ) → (length buffer == 0) ≡ true → buffer ≡ []
is_bare [] none = refl
is_bare (byte ∷ rest) none = absurd (let no : suc (length rest) ≡ 0 = eqb-true (suc (length rest)) 0 none in omega (arith, no))

pub zeros_more : (front : ℕ) (buffer : List ℕ) (zeros : Bool) → IsPageCopy front buffer zeros → buffer ≡ [] → front + 512 ≤ 4096 → IsPageCopy (front + 512) buffer zeros
zeros_more front buffer zeros is none few = grind (arith, bare_bytes, zeros_are, zeros_kept)

-- the zeros that come first, put into the buffer
pub written : (front : ℕ) (buffer : List ℕ) → (0 < front → buffer ≡ []) → buffer ++ replicate front 0 ≡ copied_bytes front buffer
written zero buffer bare = append-nil buffer
written (suc n) buffer bare =
    let none : buffer ≡ [] = bare (omega arith) in
    ap (λ b. b ++ replicate (suc n) 0) none ∙ sym (bare_bytes (suc n) buffer none)

-- what isn't zeros alone stands in the buffer
pub none_in_front : (front : ℕ) (buffer : List ℕ) (zeros : Bool) → IsPageCopy front buffer zeros
    → list_all (λ byte. byte == 0) (copied_bytes front buffer) ≡ false → buffer ≡ copied_bytes front buffer
none_in_front front buffer zeros is some = grind (arith, bare_bytes, zeros_are)

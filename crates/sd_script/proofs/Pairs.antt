-- Digits and pairs of them, as `hex` decodes them.
use Rattle.std.proofs.Common.{◌≡◌, ℕ, zero, suc, ◌+◌, ◌*◌, ◌<◌, ◌==◌, ◌&&◌, Bool, true, inl, inr, List, [], ◌∷◌, length, take, drop, slice_index, slice_index_or, Some, None, unwrap_or, Result, Ok, Err, refl, arith}
use Rattle.std.proofs.lemmas.Bool.{and_parts, cases_lt, eqb-true}
use Rattle.std.specs.Result.{result_ok}
use Rattle.hex.specs.Hex.{decode_pairs, hex_digit_value, pair_value}
use Rattle.hex.specs.declared.error.FromHexError.{FromHexError}
use Rattle.hex.proofs.Pairs.{prepend, decode_err}

-- the values of bytes as digits, from one byte on
abbrev pub values_from : ℕ → ℕ → List ℕ
values_from byte zero = []
values_from byte (suc n) = unwrap_or (hex_digit_value byte) 16 ∷ values_from (byte + 1) n

-- the test of one place of a table, which computes
abbrev reads : (ℕ → ℕ) → List ℕ → ℕ → Bool
reads value table byte = slice_index_or table byte 0 == value byte

-- the test of the first places
abbrev all_read : (ℕ → ℕ) → List ℕ → ℕ → Bool
all_read value table zero = true
all_read value table (suc n) = reads value table n && all_read value table n

-- a place below n passed the test
all_read-at : (value : ℕ → ℕ) (table : List ℕ) (n byte : ℕ) → all_read value table n ≡ true → byte < n → reads value table byte ≡ true
all_read-at value table zero byte h lt = absurd (omega arith)
all_read-at value table (suc n) byte h lt =
    let parts = and_parts (reads value table n) (all_read value table n) h in
    elim (cases_lt byte n) [
      | inl below ↦ all_read-at value table n byte parts.1 below
      | inr top ↦
          let e : byte ≡ n = omega arith in
          rw e parts.0
    ]

-- the value of each byte, in a table that passes the test
pub digit_read : (value : ℕ → ℕ) (table : List ℕ) → all_read value table 256 ≡ true → (byte : ℕ) → byte < 256
    → slice_index_or table byte 0 ≡ value byte
digit_read value table h byte lt =
    eqb-true (slice_index_or table byte 0) (value byte) (all_read-at value table 256 byte h lt)

-- a result with a value
pub ok_from : (r : Result ℕ FromHexError) (value : ℕ) → Some value ≡ result_ok r → r ≡ Ok value
ok_from r value e = grind arith

-- a pair that isn't of digits
pub unfit_from : (s bytes : List ℕ) (i : ℕ) → 2 * i + 1 < length s
    → None ≡ result_ok (pair_value (slice_index s (2 * i)) (slice_index s (2 * i + 1)) (2 * i))
    → decode_pairs 0 s ≡ prepend (take i bytes) (decode_pairs (2 * i) (drop (2 * i) s))
    → result_ok (decode_pairs 0 s) ≡ None
unfit_from s bytes i fits none invariant =
    go (pair_value (slice_index s (2 * i)) (slice_index s (2 * i + 1)) (2 * i)) refl none
  where
    go : (r : Result ℕ FromHexError) → pair_value (slice_index s (2 * i)) (slice_index s (2 * i + 1)) (2 * i) ≡ r
        → None ≡ result_ok r → result_ok (decode_pairs 0 s) ≡ None
    go (Ok value) is e = cc e
    go (Err error) is e = rw (decode_err s bytes i error fits is invariant) refl

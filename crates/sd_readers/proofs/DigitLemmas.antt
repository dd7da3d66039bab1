-- The hexadecimal digits of a number, with zeros before them and without.
use Rattle.std.proofs.Common.{◌≡◌, ◌≤◌, ◌<◌, ◌+◌, ◌*◌, ◌/◌, ◌%◌, ◌^◌, ℕ, zero, suc, Bool, true, false, ◌&&◌, nat_eq, List, [], ◌∷◌, ◌++◌, drop, replicate, refl, sym, ◌∙◌, ap, arith, append-nil}
use Rattle.std.proofs.Math.Nat.{div-div-eq-div-mul, pow-le-pow_right}
use Rattle.std.proofs.lemmas.Bool.{cond-true, cond-false}
use Rattle.std.proofs.lemmas.Bool.Decides.{nat_tests}
use native.Mathlib.Numerals.{unary_clauses}
use Rattle.std.specs.Fmt.{digits, digits_onto, digit_glyph}
use Rattle.std.specs.Int.Bits.{bit_or, or_zero_l}
use Rattle.std.proofs.lemmas.Nat.{le_or_l}
use Rattle.std.specs.Int.{to_be_bytes, bytes_high_first, byte_at, w64}
use Rattle.sd_readers.specs.Digits.{IsZeroCount}
use Rattle.hex.specs.Hex.{encode_lower, encode_with, lower_digits}
use Rattle.std.specs.Prelude.{slice_index}

-- the k lowest digits of a number, before others
abbrev spelled : ℕ → ℕ → List ℕ → List ℕ
spelled zero n after = after
spelled (suc k) n after = spelled k (n / 16) (digit_glyph false (n % 16) ∷ after)

is_zero : (q : ℕ) → q ≡ 0 → nat_eq q 0 ≡ true
is_zero q e = grind (arith, nat_tests)

is_some : (q : ℕ) → 0 < q → nat_eq q 0 ≡ false
is_some q e = grind (arith, nat_tests)

last_digit : (i n : ℕ) (after : List ℕ) → n / 16 ≡ 0 → digits_onto (suc i) 16 false n after ≡ digit_glyph false (n % 16) ∷ after
last_digit i n after small = cond-true _ _ _ (is_zero (n / 16) small)

one_digit_more : (i n : ℕ) (after : List ℕ) → 16 ≤ n → digits_onto (suc i) 16 false n after ≡ digits_onto i 16 false (n / 16) (digit_glyph false (n % 16) ∷ after)
one_digit_more i n after large = cond-false _ _ _ (is_some (n / 16) (omega (arith, large)))

power : (b k : ℕ) → b ^ suc k ≡ b ^ k * b
power b k = simp unary_clauses refl

-- a number of k digits is written by its k lowest
written_as : (k i n : ℕ) (after : List ℕ) → n < 16 ^ suc k → 16 ^ k ≤ n → k ≤ i → digits_onto (suc i) 16 false n after ≡ spelled (suc k) n after
written_as zero i n after less least room = last_digit i n after (let up = power 16 0 in let one : 16 ^ 0 ≡ 1 = refl in omega (arith, less, up, one))
written_as (suc k) zero n after less least room = absurd (omega (arith, room))
written_as (suc k) (suc i) n after less least room =
    let up = power 16 (suc k) in
    let high : n < 16 ^ suc k * 16 = omega (arith, less, up) in
    let next = power 16 k in
    let low : 16 ^ k * 16 ≤ n = omega (arith, least, next) in
    let some : 1 ≤ 16 ^ k = pow-le-pow_right {n = 16} (omega arith) {i = 0} {j = k} (omega arith) in
    one_digit_more (suc i) n after (omega (arith, low, some))
    ∙ written_as k i (n / 16) (digit_glyph false (n % 16) ∷ after) (omega (arith, high)) (omega (arith, low)) (omega (arith, room))

zeros_first : (j : ℕ) (after : List ℕ) → spelled j 0 after ≡ replicate j 48 ++ after
zeros_first zero after = refl
zeros_first (suc j) after = zeros_first j (48 ∷ after) ∙ moved j
  where
    moved : (j : ℕ) → replicate j 48 ++ 48 ∷ after ≡ 48 ∷ (replicate j 48 ++ after)
    moved zero = refl
    moved (suc j) = ap (λ xs. 48 ∷ xs) (moved j)

-- more digits than it has begin with zeros
padded : (j k n : ℕ) (after : List ℕ) → n < 16 ^ k → spelled (k + j) n after ≡ replicate j 48 ++ spelled k n after
padded j zero n after less =
    let none : n ≡ 0 = (let one : 16 ^ 0 ≡ 1 = refl in omega (arith, less, one)) in
    ap (λ i. spelled i n after) (let e : 0 + j ≡ j = omega arith in e) ∙ ap (λ m. spelled j m after) none ∙ zeros_first j after
padded j (suc k) n after less =
    let up = power 16 k in
    let high : n < 16 ^ k * 16 = omega (arith, less, up) in
    ap (λ i. spelled i n after) (let e : suc k + j ≡ suc (k + j) = omega arith in e)
    ∙ padded j k (n / 16) (digit_glyph false (n % 16) ∷ after) (omega (arith, high))

without_zeros : (j : ℕ) (xs : List ℕ) → drop j (replicate j 48 ++ xs) ≡ xs
without_zeros zero xs = refl
without_zeros (suc j) xs = without_zeros j xs

-- ---- the digits of bytes

next_byte : (i n : ℕ) → byte_at (suc i) n ≡ byte_at i (n / 256)
next_byte zero n = omega arith
next_byte (suc i) n = ap (λ q. q % 256) (ap (λ m. n / m) (let up = power 256 (suc i) in let e : 256 ^ suc (suc i) ≡ 256 * 256 ^ suc i = omega (arith, up) in e) ∙ sym (div-div-eq-div-mul n 256 (256 ^ suc i)))

last_byte : (k n : ℕ) → bytes_high_first (suc k) n ≡ bytes_high_first k (n / 256) ++ (n % 256) ∷ []
last_byte zero n = refl
last_byte (suc k) n = ap (λ b. b ∷ bytes_high_first (suc k) n) (next_byte k n) ∙ ap (λ bs. byte_at k (n / 256) ∷ bs) (last_byte k n)

glyph : (d : ℕ) → d < 16 → slice_index lower_digits d ≡ digit_glyph false d
glyph d less = by d less
  where
    by : (d : ℕ) → d < 16 → slice_index lower_digits d ≡ digit_glyph false d
    by zero less = refl
    by (suc zero) less = refl
    by (suc (suc zero)) less = refl
    by (suc (suc (suc zero))) less = refl
    by (suc (suc (suc (suc zero)))) less = refl
    by (suc (suc (suc (suc (suc zero))))) less = refl
    by (suc (suc (suc (suc (suc (suc zero)))))) less = refl
    by (suc (suc (suc (suc (suc (suc (suc zero))))))) less = refl
    by (suc (suc (suc (suc (suc (suc (suc (suc zero)))))))) less = refl
    by (suc (suc (suc (suc (suc (suc (suc (suc (suc zero))))))))) less = refl
    by (suc (suc (suc (suc (suc (suc (suc (suc (suc (suc zero)))))))))) less = refl
    by (suc (suc (suc (suc (suc (suc (suc (suc (suc (suc (suc zero))))))))))) less = refl
    by (suc (suc (suc (suc (suc (suc (suc (suc (suc (suc (suc (suc zero)))))))))))) less = refl
    by (suc (suc (suc (suc (suc (suc (suc (suc (suc (suc (suc (suc (suc zero))))))))))))) less = refl
    by (suc (suc (suc (suc (suc (suc (suc (suc (suc (suc (suc (suc (suc (suc zero)))))))))))))) less = refl
    by (suc (suc (suc (suc (suc (suc (suc (suc (suc (suc (suc (suc (suc (suc (suc zero))))))))))))))) less = refl
    by (suc (suc (suc (suc (suc (suc (suc (suc (suc (suc (suc (suc (suc (suc (suc (suc d)))))))))))))))) less = absurd (omega (arith, less))

encode_last : (xs : List ℕ) (b : ℕ) (after : List ℕ) → encode_lower (xs ++ b ∷ []) ++ after ≡ encode_lower xs ++ slice_index lower_digits (b / 16) ∷ slice_index lower_digits (b % 16) ∷ after
unfolding encode_with
encode_last [] b after = refl
encode_last (x ∷ xs) b after = ap (λ ys. slice_index lower_digits (x / 16) ∷ slice_index lower_digits (x % 16) ∷ ys) (encode_last xs b after)

encode_none : encode_lower [] ≡ []
unfolding encode_with
encode_none = refl

encoded : (k n : ℕ) (after : List ℕ) → encode_lower (bytes_high_first k n) ++ after ≡ spelled (k + k) n after
encoded zero n after = ap (λ xs. xs ++ after) encode_none
encoded (suc k) n after =
    let b : ℕ = n % 256 in
    let high : b / 16 ≡ n / 16 % 16 = omega arith in
    let low : b % 16 ≡ n % 16 = omega arith in
    let deep : n / 256 ≡ n / 16 / 16 = omega arith in
    ap (λ bs. encode_lower bs ++ after) (last_byte k n)
    ∙ encode_last (bytes_high_first k (n / 256)) b after
    ∙ ap (λ ds. encode_lower (bytes_high_first k (n / 256)) ++ ds)
    (ap (λ g. g ∷ slice_index lower_digits (b % 16) ∷ after) (glyph (b / 16) (omega arith) ∙ ap (digit_glyph false) high)
    ∙ ap (λ g. digit_glyph false (n / 16 % 16) ∷ g ∷ after) (glyph (b % 16) (omega arith) ∙ ap (digit_glyph false) low))
    ∙ encoded k (n / 256) (digit_glyph false (n / 16 % 16) ∷ digit_glyph false (n % 16) ∷ after)
    ∙ ap (λ m. spelled (k + k) m (digit_glyph false (n / 16 % 16) ∷ digit_glyph false (n % 16) ∷ after)) deep
    ∙ ap (λ j. spelled j n after) (let e : suc (suc (k + k)) ≡ suc k + suc k = omega arith in e)

-- the 16 digits of a number that has k + 1, without those before it
pub digits_without_zeros : (k zeros n : ℕ) → suc k + zeros ≡ 16 → n < 16 ^ suc k → 16 ^ k ≤ n → drop zeros (encode_lower (to_be_bytes w64 n)) ≡ digits 16 false n
unfolding digits
digits_without_zeros k zeros n sum less least =
    ap (drop zeros)
    (sym (append-nil (encode_lower (to_be_bytes w64 n))) ∙ encoded 8 n [] ∙ ap (λ j. spelled j n []) (sym sum) ∙ padded zeros (suc k) n [] less)
    ∙ without_zeros zeros (spelled (suc k) n [])
    ∙ sym (written_as k 63 n [] less least (omega (arith, sum)))

-- 0 has one
pub digits_of_zero : drop 15 (encode_lower (to_be_bytes w64 0)) ≡ digits 16 false 0
unfolding digits encode_with
digits_of_zero = refl

-- ---- how many there are

four_more : (m : ℕ) → 2 ^ suc (suc (suc (suc m))) ≡ 2 ^ m * 2 * 2 * 2 * 2
four_more m = simp unary_clauses refl

sixteen : (q : ℕ) → 16 ^ q ≡ 2 ^ (4 * q)
sixteen zero = refl
sixteen (suc q) =
    power 16 q ∙
    let p : ℕ = 2 ^ (4 * q) in
    let before = sixteen q in
    ap (λ n. n * 16) before ∙ (let e : p * 16 ≡ p * 2 * 2 * 2 * 2 = omega arith in e) ∙ sym (four_more (4 * q)) ∙ ap (λ n. 2 ^ n) (let e : suc (suc (suc (suc (4 * q)))) ≡ 4 * suc q = omega arith in e)

-- the highest digit of a number stands at its highest bit
pub zeros_counted : (n zeros j : ℕ) → 2 ^ j ≤ n → n < 2 ^ suc j → j ≤ 63 → zeros + j / 4 ≡ 15 → IsZeroCount n zeros
zeros_counted n zeros j least less few sum =
    let q : ℕ = j / 4 in
    let low : 2 ^ (4 * q) ≤ 2 ^ j = pow-le-pow_right (omega arith) (omega arith) in
    let high : 2 ^ suc j ≤ 2 ^ (4 * suc q) = pow-le-pow_right (omega arith) (omega arith) in
    let here = sixteen q in
    let next = sixteen (suc q) in
    record {
      few = omega (arith, sum);
      written = digits_without_zeros q zeros n (omega (arith, sum)) (omega (arith, less, high, next)) (omega (arith, least, low, here));
    }

pub zeros_of_zero : IsZeroCount 0 15
zeros_of_zero = record { few = omega arith; written = digits_of_zero }

-- ---- zeros alone

pub or_is_zero : (a b : ℕ) → nat_eq (bit_or a b) 0 ≡ (nat_eq a 0 && (nat_eq b 0 && true))
or_is_zero zero b = ap (λ n. nat_eq n 0) (or_zero_l b) ∙ kept (nat_eq b 0) ∙ ap (λ z. z && (nat_eq b 0 && true)) (sym (is_zero 0 refl))
  where
    kept : (z : Bool) → z ≡ (true && (z && true))
    kept true = refl
    kept false = refl
or_is_zero (suc a) b =
    is_some (bit_or (suc a) b) (let more = le_or_l (suc a) b in omega (arith, more)) ∙ ap (λ z. z && (nat_eq b 0 && true)) (sym (is_some (suc a) (omega arith)))

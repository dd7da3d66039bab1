-- Numbers in digits, read one digit after the other.
use Rattle.std.proofs.Common.{◌≡◌, ◌<◌, ◌≤◌, ◌+◌, ◌-◌, ◌*◌, ◌/◌, ◌^◌, ◌&&◌, ◌==◌, ℕ, zero, suc, Bool, false, List, [], ◌∷◌, length, take, get_or, Some, None, refl, sym, ◌∙◌, ap, subst, nat_lt, if◌then◌else◌, arith}
use Rattle.std.specs.List.{list_all}
use Rattle.std.specs.Bool.{Decides}
use Rattle.std.specs.Char.{is_digit, digit_value}
use Rattle.std.specs.Str.Parse.{AllDigits, IsNumeral, digits_value}
use Rattle.std.proofs.lemmas.Bool.Decides.{Decides-and, Decides-ltb, nat_tests}
use Rattle.std.proofs.lemmas.Int.Digits.{digits_more, digits_value_more}
use Rattle.std.proofs.lemmas.List.{take_all}
use Rattle.std.proofs.lemmas.Str.Parse.{digits_value-take-le}
use Rattle.sd_script.specs.Line.{numeral_of}

Decides-digits : (radix : ℕ) (ds : List ℕ) → Decides (list_all (λ c. is_digit c radix) ds) (AllDigits radix ds)
Decides-digits radix [] = (λ _. tt, λ _. refl)
Decides-digits radix (c ∷ cs) = Decides-and _ _ (Decides-ltb (digit_value c) radix) (Decides-digits radix cs)

-- the test of `numeral_of`
Decides-numeral : (radix : ℕ) (ds : List ℕ) → Decides (nat_lt 0 (length ds) && list_all (λ c. is_digit c radix) ds && nat_lt (digits_value radix ds) (2 ^ 64)) (IsNumeral radix ds × (digits_value radix ds < 2 ^ 64))
Decides-numeral radix ds = Decides-and _ _ (Decides-and _ _ (Decides-ltb 0 (length ds)) (Decides-digits radix ds)) (Decides-ltb (digits_value radix ds) (2 ^ 64))

chosen : (b : Bool) (P : Type 0) (n : ℕ) → Decides b P → P → (if b then Some n else None) ≡ Some n
chosen b P n d p = grind arith

not_chosen : (b : Bool) (P : Type 0) (n : ℕ) → Decides b P → (P → ⊥) → (if b then Some n else None) ≡ None
not_chosen b P n d not_so = grind arith

-- the value of one of the digits
digit_below : (radix : ℕ) (ds : List ℕ) (i : ℕ) → AllDigits radix ds → i < length ds → digit_value (get_or ds i 0) < radix
digit_below radix [] i all within = absurd (omega arith)
digit_below radix (c ∷ cs) zero all within = all.0
digit_below radix (c ∷ cs) (suc i) all within = digit_below radix cs i all.1 (omega arith)

pub large-more : (radix number : ℕ) → 1 ≤ radix → (2 ^ 64 - 1) / radix < number → 2 ^ 64 ≤ number * radix
large-more radix number some less = grind arith

-- a byte that is no digit
pub numeral-unfit : (radix : ℕ) (ds : List ℕ) (i : ℕ) → i < length ds → radix ≤ digit_value (get_or ds i 0) → numeral_of radix ds ≡ None
numeral-unfit radix ds i within unfit =
    not_chosen _ _ (digits_value radix ds) (Decides-numeral radix ds) (λ own. let below = digit_below radix ds i own.0.1 within in omega arith)

-- what is known after some digits
pub record Reads (radix : ℕ) (ds : List ℕ) (i number : ℕ) : Type 0 where
  pub digits : AllDigits radix (take i ds)
  pub value : number ≡ digits_value radix (take i ds)
  pub small : number < 2 ^ 64

pub reads-none : (radix : ℕ) (ds : List ℕ) → Reads radix ds 0 0
reads-none radix ds = record { digits = tt; value = refl; small = omega arith }

pub reads-more : (radix : ℕ) (ds : List ℕ) (i number : ℕ) → Reads radix ds i number → i < length ds → digit_value (get_or ds i 0) < radix
    → number * radix + digit_value (get_or ds i 0) < 2 ^ 64 → Reads radix ds (i + 1) (number * radix + digit_value (get_or ds i 0))
reads-more radix ds i number reads within below small = grind (arith, digits_more, digits_value_more)

pub numeral-read : (radix : ℕ) (ds : List ℕ) (i number : ℕ) → Reads radix ds i number → 0 < length ds → i ≡ length ds → numeral_of radix ds ≡ Some number
numeral-read radix ds i number reads some at_end =
    let all : take i ds ≡ ds = take_all i ds (omega arith) in
    let digits : AllDigits radix ds = subst (AllDigits radix) all reads.digits in
    let value : number ≡ digits_value radix ds = reads.value ∙ ap (digits_value radix) all in
    let small : digits_value radix ds < 2 ^ 64 = subst (λ n. n < 2 ^ 64) value reads.small in
    chosen _ _ (digits_value radix ds) (Decides-numeral radix ds) ((some, digits), small) ∙ ap Some (sym value)

-- one digit more makes it too large
pub numeral-large : (radix : ℕ) (ds : List ℕ) (i number : ℕ) → Reads radix ds i number → 1 ≤ radix → i < length ds → 2 ^ 64 ≤ number * radix + digit_value (get_or ds i 0) → numeral_of radix ds ≡ None
numeral-large radix ds i number reads some within large =
    let more = digits_value_more radix ds i within in
    let same : number * radix ≡ digits_value radix (take i ds) * radix = ap (λ n. n * radix) reads.value in
    let least = digits_value-take-le radix ds (i + 1) some in
    not_chosen _ _ (digits_value radix ds) (Decides-numeral radix ds) (λ own. let below = own.1 in omega arith)

pub some_digits : (n : ℕ) → false ≡ (n == 0) → 0 < n
some_digits n e = grind (arith, nat_tests)

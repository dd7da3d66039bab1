-- The used places of a table, as bits of words.
use Rattle.std.proofs.Common.{◌≡◌, ℕ, ◌+◌, ◌-◌, ◌*◌, ◌/◌, ◌%◌, ◌^◌, ◌<◌, ◌≤◌, true, false, not, ◌&&◌, ◌||◌, nat_eq, is_some, List, length, set, get_or, Option, Some, None, sym, ◌∙◌, ap, inl, inr, arith, get_or-set_other, get_or-set_same}
use Rattle.std.specs.Int.{bit_at, bit_not, trailing_zeros, w64}
use Rattle.std.specs.Int.Bits.{bit_and, bit_or}
use Rattle.std.proofs.lemmas.Bool.{cases_eq, cases_lt, eq-eqb, ne_eqb, or_left, and_left, not_from_true}
use Rattle.std.proofs.lemmas.List.{get_or_past}
use Rattle.std.proofs.lemmas.Nat.{shr-shr, shr_le}
use Rattle.std.proofs.lemmas.Nat.Bits.{bit_at-zero, bit_at_set_same, bit_at_set_other, bit_at_clear_same, bit_at_clear_other, bit_at-trailing_zeros, bit_at_above, bit_at_not}
use Rattle.sd_tables.specs.Radix.{is_used, IsNextUsed, IsNextInWord, IsFirstBitOf, IsNextBit, IsUsedTo, IsHoleInWord, IsNextClearBit}

-- ---- one bit
bit_shr : (n a j : ℕ) → bit_at (n / 2 ^ a) j ≡ bit_at n (a + j)
bit_shr n a j = ap (λ k. k % 2) (shr-shr n a j)

bit_from : (n a i : ℕ) → a ≤ i → bit_at n i ≡ bit_at (n / 2 ^ a) (i - a)
bit_from n a i l = ap (bit_at n) (let e : i ≡ a + (i - a) = omega arith in e) ∙ sym (bit_shr n a (i - a))

pub next_none : (word from : ℕ) → word / 2 ^ from ≡ 0 → IsNextBit word from None
next_none word from e bit l = bit_from word from bit l ∙ ap (λ n. bit_at n (bit - from)) e ∙ bit_at-zero (bit - from)

module _ (word from : ℕ) (fits : word < 2 ^ 64) (some : word / 2 ^ from ≡ 0 → ⊥) where
  lowest : (trailing_zeros w64 (word / 2 ^ from) < 64) × (bit_at (word / 2 ^ from) (trailing_zeros w64 (word / 2 ^ from)) ≡ 1)
      × ((i : ℕ) → i < trailing_zeros w64 (word / 2 ^ from) → bit_at (word / 2 ^ from) i ≡ 0)
  lowest = bit_at-trailing_zeros w64 (word / 2 ^ from) (let p : 0 < word / 2 ^ from = omega arith in p) (let l = shr_le word from in omega arith)

  set_there : bit_at word (from + trailing_zeros w64 (word / 2 ^ from)) ≡ 1
  set_there = sym (bit_shr word from (trailing_zeros w64 (word / 2 ^ from))) ∙ lowest.1

  below_64 : from + trailing_zeros w64 (word / 2 ^ from) < 64
  below_64 = elim (cases_lt (from + trailing_zeros w64 (word / 2 ^ from)) 64) [
    | inl l ↦ l
    | inr g ↦ absurd (let e : 0 ≡ 1 = sym (bit_at_above word 64 (from + trailing_zeros w64 (word / 2 ^ from)) fits g) ∙ set_there in omega arith)
  ]

  pub next_some : IsNextBit word from (Some (from + trailing_zeros w64 (word / 2 ^ from)))
  next_some = (
    (let t = trailing_zeros w64 (word / 2 ^ from) in omega arith),
    below_64,
    set_there,
    λ bit l m. bit_from word from bit l ∙ lowest.2 (bit - from) (omega arith),
  )

-- ---- one place
module _ (words : List ℕ) (place other : ℕ) (within : place / 64 < length words) where
  module _ (word : ℕ) where
    same_word : other / 64 ≡ place / 64 → get_or (set words (place / 64) word) (other / 64) 0 ≡ word
    same_word same = ap (λ k. get_or (set words (place / 64) word) k 0) same ∙ get_or-set_same words (place / 64) word 0 within

    other_word : (other / 64 ≡ place / 64 → ⊥) → is_used (set words (place / 64) word) other ≡ is_used words other
    other_word apart = ap (λ n. nat_eq (bit_at n (other % 64)) 1) (get_or-set_other words (place / 64) (other / 64) word 0 apart)

  not_place : (other ≡ place → ⊥) → nat_eq other place ≡ false
  not_place apart = ne_eqb other place apart

  pub used_added : is_used (set words (place / 64) (bit_or (get_or words (place / 64) 0) (1 * 2 ^ (place % 64) % 2 ^ 64))) other ≡ (nat_eq other place || is_used words other)
  used_added =
      let n = get_or words (place / 64) 0 in
      let word = bit_or (get_or words (place / 64) 0) (1 * 2 ^ (place % 64) % 2 ^ 64) in
      elim (cases_eq (other / 64) (place / 64)) [
        | inl same ↦ elim (cases_eq (other % 64) (place % 64)) [
          | inl bit ↦ eq-eqb (bit_at (get_or (set words (place / 64) word) (other / 64) 0) (other % 64)) 1
              (ap (λ w. bit_at w (other % 64)) (same_word word same) ∙ ap (bit_at word) bit ∙ bit_at_set_same w64 n (place % 64) (omega arith))
              ∙ sym (or_left (nat_eq other place) (is_used words other) (eq-eqb other place (omega arith)))
          | inr apart ↦ ap (λ b. nat_eq b 1) (ap (λ w. bit_at w (other % 64)) (same_word word same) ∙ bit_at_set_other w64 n (place % 64) (omega arith) (other % 64) apart
              ∙ ap (λ k. bit_at (get_or words k 0) (other % 64)) (sym same))
              ∙ sym (ap (λ b. b || is_used words other) (not_place (λ e. apart (ap (λ k. k % 64) e))))
        ]
        | inr apart ↦ other_word word apart ∙ sym (ap (λ b. b || is_used words other) (not_place (λ e. apart (ap (λ k. k / 64) e))))
      ]

  pub used_removed : is_used (set words (place / 64) (bit_and (get_or words (place / 64) 0) (bit_not w64 (1 * 2 ^ (place % 64) % 2 ^ 64)))) other ≡ (not (nat_eq other place) && is_used words other)
  used_removed =
      let n = get_or words (place / 64) 0 in
      let word = bit_and (get_or words (place / 64) 0) (bit_not w64 (1 * 2 ^ (place % 64) % 2 ^ 64)) in
      elim (cases_eq (other / 64) (place / 64)) [
        | inl same ↦ elim (cases_eq (other % 64) (place % 64)) [
          | inl bit ↦ ne_eqb (bit_at (get_or (set words (place / 64) word) (other / 64) 0) (other % 64)) 1
              (λ e. let z : 0 ≡ 1 = sym (ap (λ w. bit_at w (other % 64)) (same_word word same) ∙ ap (bit_at word) bit ∙ bit_at_clear_same w64 n (place % 64) (omega arith)) ∙ e in omega arith)
              ∙ sym (and_left (not (nat_eq other place)) (is_used words other) (not_from_true (nat_eq other place) (eq-eqb other place (omega arith))))
          | inr apart ↦ ap (λ b. nat_eq b 1) (ap (λ w. bit_at w (other % 64)) (same_word word same) ∙ bit_at_clear_other w64 n (place % 64) (omega arith) (other % 64) (omega arith) apart
              ∙ ap (λ k. bit_at (get_or words k 0) (other % 64)) (sym same))
              ∙ sym (ap (λ b. not b && is_used words other) (not_place (λ e. apart (ap (λ k. k % 64) e))))
        ]
        | inr apart ↦ other_word word apart ∙ sym (ap (λ b. not b && is_used words other) (not_place (λ e. apart (ap (λ k. k / 64) e))))
      ]

-- ---- the next used place
pub past_none : (words : List ℕ) (place : ℕ) → length words ≤ place / 64 → is_used words place ≡ false
past_none words place l = ne_eqb (bit_at (get_or words (place / 64) 0) (place % 64)) 1
    (λ e. let z : 0 ≡ 1 = sym (ap (λ n. bit_at n (place % 64)) (get_or_past words (place / 64) 0 l) ∙ bit_at-zero (place % 64)) ∙ e in omega arith)

module _ (words : List ℕ) (word from low : ℕ) (first : IsFirstBitOf word from low) where
  unset : (place : ℕ) → place / 64 ≡ word → bit_at (get_or words word 0) (place % 64) ≡ 0 → is_used words place ≡ false
  unset place here z = ne_eqb (bit_at (get_or words (place / 64) 0) (place % 64)) 1
      (λ e. let k : 0 ≡ 1 = sym z ∙ ap (λ w. bit_at (get_or words w 0) (place % 64)) (sym here) ∙ e in omega arith)

  pub in_word_none : IsNextBit (get_or words word 0) low None → IsNextInWord words word from None
  in_word_none none = λ place l here. unset place here (none (place % 64) (first.1 place l here))

  pub in_word_some : (bit : ℕ) → IsNextBit (get_or words word 0) low (Some bit) → IsNextInWord words word from (Some (word * 64 + bit))
  in_word_some bit some = grind arith

module _ (words : List ℕ) (word from : ℕ) (below : (place : ℕ) → from ≤ place → place / 64 < word → is_used words place ≡ false) where
  -- no place of the word is used either
  pub next_more : (o : Option ℕ) → is_some o ≡ false → IsNextInWord words word from o → (place : ℕ) → from ≤ place → place / 64 < word + 1 → is_used words place ≡ false
  next_more o e none = grind arith

  -- the first used place is one of the word
  pub next_found : (o : Option ℕ) → is_some o ≡ true → word < 8 → IsNextInWord words word from o → IsNextUsed words from o
  next_found o e w none = grind arith

-- ---- the first place that isn't used
pub clear_next : (word from : ℕ) → word < 2 ^ 64 → (o : Option ℕ) → IsNextBit (bit_not w64 word) from o → IsNextClearBit word from o
clear_next word from fits None none = λ bit l m. set_of bit m (none bit l)
  where
    set_of : (bit : ℕ) → bit < 64 → bit_at (bit_not w64 word) bit ≡ 0 → bit_at word bit ≡ 1
    set_of bit m z = let n = bit_at_not w64 word bit fits m in let b : bit_at word bit < 2 = omega arith in omega arith
clear_next word from fits (Some next) some = (some.0, some.1, λ bit l m. set_of bit (let b = some.1 in omega arith) (some.3 bit l m))
  where
    set_of : (bit : ℕ) → bit < 64 → bit_at (bit_not w64 word) bit ≡ 0 → bit_at word bit ≡ 1
    set_of bit m z = let n = bit_at_not w64 word bit fits m in let b : bit_at word bit < 2 = omega arith in omega arith

module _ (words : List ℕ) (word from low : ℕ) (first : IsFirstBitOf word from low) where
  set_at : (place : ℕ) → place / 64 ≡ word → bit_at (get_or words word 0) (place % 64) ≡ 1 → is_used words place ≡ true
  set_at place here z = eq-eqb (bit_at (get_or words (place / 64) 0) (place % 64)) 1 (ap (λ w. bit_at (get_or words w 0) (place % 64)) here ∙ z)

  pub hole_none : IsNextClearBit (get_or words word 0) low None → IsHoleInWord words word from None
  hole_none none = λ place l here. set_at place here (none (place % 64) (first.1 place l here) (omega arith))

  pub hole_some : (bit : ℕ) → IsNextClearBit (get_or words word 0) low (Some bit) → IsHoleInWord words word from (Some (word * 64 + bit))
  hole_some bit some = (
    (let a = first.0 in let b = some.0 in omega arith),
    (let b = some.1 in omega arith),
    λ place l m here. set_at place here (some.2 (place % 64) (first.1 place l here) (let b = some.1 in omega arith)),
  )

module _ (words : List ℕ) (word from : ℕ) (below : (place : ℕ) → from ≤ place → place / 64 < word → is_used words place ≡ true) where
  -- each place of the word is used too
  pub used_more : (o : Option ℕ) → o ≡ None → IsHoleInWord words word from o → (place : ℕ) → from ≤ place → place / 64 < word + 1 → is_used words place ≡ true
  used_more o e none = grind arith

  -- the places up to the first one of the word that isn't
  pub used_found : (hole : ℕ) → IsHoleInWord words word from (Some hole) → IsUsedTo words from hole
  used_found hole found = λ place l m. elim (cases_lt (place / 64) word) [
    | inl b ↦ below place l b
    | inr g ↦ found.2 place l m (let w = found.1 in omega arith)
  ]

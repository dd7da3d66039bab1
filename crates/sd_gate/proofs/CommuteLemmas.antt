-- Writes after the gate that don't overlap may be made in either order.
use Rattle.std.proofs.Common.{◌≡◌, ◌≢◌, ◌⊎◌, ⊎_elim, inl, inr, ℕ, zero, suc, ◌+◌, ◌-◌, ◌<◌, ◌≤◌, max, List, [], ◌∷◌, ◌++◌, length, length-append, take, replicate, slice_index, refl, arith}
use Rattle.std.proofs.lemmas.Bool.{cases_lt}
use Rattle.std.proofs.lemmas.Grind.{common_steps, same_number_lists}
use Rattle.std.proofs.lemmas.List.{length-replicate}
use Rattle.sd_disk.specs.Contents.{file_after_write}
use Rattle.sd_gate.specs.Laws.{AreApart, WritesCommute}
use Rattle.sd_gate.specs.Sequences.{data_place}

length_after : (file bytes : List ℕ) (at : ℕ) → length (file_after_write file at bytes) ≡ max (length file) (at + length bytes)
length_after file bytes at = grind (arith, common_steps)

zero_at : (count i : ℕ) → slice_index (replicate count 0) i ≡ 0
zero_at count i = grind (arith, common_steps)

-- the bytes in front of the range
front_at : (pad bytes rest : List ℕ) (at i : ℕ) → i < at → at ≤ length pad → slice_index (take at pad ++ bytes ++ rest) i ≡ slice_index pad i
front_at pad bytes rest at i below within = grind (arith, common_steps)

-- zeros are read past the end, also where there are some
pad_at : (file : List ℕ) (count i : ℕ) → slice_index (file ++ replicate count 0) i ≡ slice_index file i
pad_at [] count i = zero_at count i
pad_at (x ∷ file) count zero = refl
pad_at (x ∷ file) count (suc i) = pad_at file count i

-- at a place outside the range
below_kept : (file bytes : List ℕ) (at i : ℕ) → i < at → slice_index (file_after_write file at bytes) i ≡ slice_index file i
below_kept file bytes at i below = grind (arith, length-append, length-replicate, front_at, pad_at)

above_kept : (file bytes : List ℕ) (at i : ℕ) → at + length bytes ≤ i → slice_index (file_after_write file at bytes) i ≡ slice_index file i
above_kept file bytes at i above = ⊎_elim
    (λ (near : i < length file). let within = near in grind (arith, common_steps))
    (λ (past : length file ≤ i). let beyond = past in grind (arith, common_steps))
    (cases_lt i (length file))

outside_kept : (file bytes : List ℕ) (at i : ℕ) → (i < at) ⊎ (at + length bytes ≤ i) → slice_index (file_after_write file at bytes) i ≡ slice_index file i
outside_kept file bytes at i given = grind (arith, below_kept, above_kept)

-- and within it
within_set : (file bytes : List ℕ) (at i : ℕ) → at ≤ i → i < at + length bytes → slice_index (file_after_write file at bytes) i ≡ slice_index bytes (i - at)
within_set file bytes at i above below = grind (arith, common_steps)

module _ (file first second : List ℕ) (i j : ℕ) (apart : (i + length first ≤ j) ⊎ (j + length second ≤ i)) where
  abbrev one : List ℕ
  one = file_after_write (file_after_write file i first) j second

  abbrev other : List ℕ
  other = file_after_write (file_after_write file j second) i first

  same_length : length one ≡ length other
  same_length = grind (arith, length_after)

  -- a place that the first write sets lies outside the second
  in_first : (k : ℕ) → i ≤ k → k < i + length first → (k < j) ⊎ (j + length second ≤ k)
  in_first k above below = ⊎_elim (λ before. inl (omega (arith, before, below))) (λ behind. inr (omega (arith, behind, above))) apart

  in_second : (k : ℕ) → j ≤ k → k < j + length second → (k < i) ⊎ (i + length first ≤ k)
  in_second k above below = ⊎_elim (λ before. inr (omega (arith, before, above))) (λ behind. inl (omega (arith, behind, below))) apart

  at_first : (k : ℕ) → i ≤ k → k < i + length first → slice_index one k ≡ slice_index other k
  at_first k above below = grind (arith, outside_kept, within_set)

  at_second : (k : ℕ) → j ≤ k → k < j + length second → slice_index one k ≡ slice_index other k
  at_second k above below = grind (arith, within_set, outside_kept)

  at_neither : (k : ℕ) → (k < i) ⊎ (i + length first ≤ k) → (k < j) ⊎ (j + length second ≤ k) → slice_index one k ≡ slice_index other k
  at_neither k out past = grind (arith, outside_kept)

  outside_first : (k : ℕ) → (k < i) ⊎ (i + length first ≤ k) → slice_index one k ≡ slice_index other k
  outside_first k out = ⊎_elim
      (λ below. at_neither k out (inl below))
      (λ above. ⊎_elim (λ near. at_second k above near) (λ past. at_neither k out (inr past)) (cases_lt k (j + length second)))
      (cases_lt k j)

  same_at : (k : ℕ) → slice_index one k ≡ slice_index other k
  same_at k = ⊎_elim
      (λ below. outside_first k (inl below))
      (λ above. ⊎_elim (λ near. at_first k above near) (λ past. outside_first k (inr past)) (cases_lt k (i + length first)))
      (cases_lt k i)

  pub commute : one ≡ other
  commute = same_number_lists one other same_length (λ k near. same_at k)

behind_apart : (i j : ℕ) (first second : List ℕ) → 0 < i → 0 < j → AreApart i first j second
    → ((i - 1) + length first ≤ j - 1) ⊎ ((j - 1) + length second ≤ i - 1)
behind_apart i j first second here there given = grind arith

pages_apart : (i j : ℕ) (first second : List ℕ) → i ≢ j → length first ≡ 4096 → length second ≡ 4096 → AreApart (data_place i) first (data_place j) second
pages_apart i j first second other one two = grind arith

pub writes_commute : WritesCommute
writes_commute = record {
  apart = λ body i j first second here there apart. commute body first second (i - 1) (j - 1) (behind_apart i j first second here there apart);
  pages = pages_apart;
}

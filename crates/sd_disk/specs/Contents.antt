-- The contents of a disk: the list of its slots' files, each a list of bytes.
use Rattle.std.specs.Prelude.{◌≡◌, ◌≢◌, ℕ, ◌+◌, ◌-◌, ◌<◌, ◌≤◌, max, min, List, [], ◌++◌, length, take, drop, replicate}
use Rattle.std.specs.Prelude.{slice_index, slice_index_or}

-- the file of a slot
abbrev pub file_at : List (List ℕ) → ℕ → List ℕ
file_at contents slot = slice_index_or contents slot []

-- a file after these bytes were written at a place; where that begins past the old end, zeros fill the gap
abbrev pub file_after_write : List ℕ → ℕ → List ℕ → List ℕ
file_after_write file at bytes =
    take at (file ++ replicate (at - length file) 0) ++ bytes ++ drop (at + length bytes) file

-- what a write of n bytes may leave, also one that failed: any bytes in its range and past the old end, and all others
pub record Torn (at n : ℕ) (old new : List ℕ) : Type 0 where
  pub no_shorter : length old ≤ length new
  pub no_longer : length new ≤ max (length old) (at + n)
  pub below : (i : ℕ) → i < length old → i < at → slice_index new i ≡ slice_index old i
  pub above : (i : ℕ) → i < length old → at + n ≤ i → slice_index new i ≡ slice_index old i

-- what a cut to n bytes may leave, also one that failed: the first n bytes, and after them any bytes, no longer than
-- before
pub record Cut (n : ℕ) (old new : List ℕ) : Type 0 where
  pub no_shorter : min (length old) n ≤ length new
  pub no_longer : length new ≤ length old
  pub below : (i : ℕ) → i < length old → i < n → slice_index new i ≡ slice_index old i

-- one slot changes by a step, and every other keeps its file
pub record AtSlot (slot : ℕ) (step : List ℕ → List ℕ → Type 0) (old new : List (List ℕ)) : Type 0 where
  pub count : length new ≡ length old
  pub here : step (file_at old slot) (file_at new slot)
  pub others : (other : ℕ) → other ≢ slot → file_at new other ≡ file_at old other

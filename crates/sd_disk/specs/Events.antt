-- What a record of calls says of files.
use Rattle.std.specs.Prelude.{◌≡◌, ℕ, ◌+◌, ◌≤◌, max, min, Bool, true, false, not, cond, ◌&&◌, ◌||◌, nat_lt, List, []}
use Rattle.std.specs.Prelude.{◌∷◌, length, take, map, slice_index, slice_range, slice_set}
use Rattle.std.specs.List.{range_with_len}
use Rattle.sd_disk.specs.Contents.{file_at, file_after_write}
use Rattle.sd_disk.specs.declared.call.Call.{Call}
use Rattle.sd_disk.specs.declared.call.Call.TheVariants.{Measured, Read, Written, Cut, Synced, Failed, WriteFailed}
use Rattle.sd_disk.specs.declared.call.Call.TheVariants.{CutFailed}

-- what no code knows: what the files held when they were opened, and what a failed write or cut left of its
-- file, at the number of calls that had failed before it
pub record Outside : Type 0 where
  pub found : List (List ℕ)
  pub left : List (List ℕ)

-- a call with what came back, and the bytes that it carried
abbrev pub DiskEvent : Type 0
DiskEvent = Call × List ℕ

abbrev pub is_failure : Call → Bool
is_failure (Measured slot len) = false
is_failure (Read slot at) = false
is_failure (Written slot at) = false
is_failure (Cut slot len) = false
is_failure (Synced slot) = false
is_failure Failed = true
is_failure (WriteFailed slot at) = true
is_failure (CutFailed slot len) = true

-- how many calls failed. The last call stands first
abbrev pub failures_in : List DiskEvent → ℕ
failures_in [] = 0
failures_in (event ∷ earlier) = cond (is_failure event.0) (failures_in earlier + 1) (failures_in earlier)

-- a file of so many bytes, with those of `file` at the places that are kept
abbrev pub mixed : ℕ → (ℕ → Bool) → List ℕ → List ℕ → List ℕ
mixed count kept file others =
    map (λ i. cond (kept i) (slice_index file i) (slice_index others i)) (range_with_len 0 count)

-- the file after a failed write of n bytes: what was left, so far as such a write reaches
abbrev pub torn_write : ℕ → ℕ → List ℕ → List ℕ → List ℕ
torn_write at n file left =
    mixed (max (length file) (min (length left) (at + n)))
    (λ i. nat_lt i (length file) && (nat_lt i at || not (nat_lt i (at + n)))) file left

-- the file after a failed cut to n bytes, likewise
abbrev pub torn_cut : ℕ → List ℕ → List ℕ → List ℕ
torn_cut n file left = mixed (max (min (length file) n) (min (length file) (length left))) (λ i. nat_lt i n) file left

-- the files after one call
abbrev pub files_after_call : Call → List ℕ → List ℕ → List (List ℕ) → List (List ℕ)
files_after_call (Measured slot len) bytes left files = files
files_after_call (Read slot at) bytes left files = files
files_after_call (Written slot at) bytes left files =
    slice_set files slot (file_after_write (file_at files slot) at bytes)
files_after_call (Cut slot len) bytes left files = slice_set files slot (take len (file_at files slot))
files_after_call (Synced slot) bytes left files = files
files_after_call Failed bytes left files = files
files_after_call (WriteFailed slot at) bytes left files =
    slice_set files slot (torn_write at (length bytes) (file_at files slot) left)
files_after_call (CutFailed slot len) bytes left files = slice_set files slot (torn_cut len (file_at files slot) left)

-- the files after all calls
abbrev pub files_after : Outside → List DiskEvent → List (List ℕ)
files_after outside [] = outside.found
files_after outside (event ∷ earlier) =
    files_after_call event.0 event.1 (file_at outside.left (failures_in earlier)) (files_after outside earlier)

-- what came back is that of these files, and a cut didn't lengthen
abbrev pub IsAnswer : Call → List ℕ → List (List ℕ) → Type 0
IsAnswer (Measured slot len) bytes files = len ≡ length (file_at files slot)
IsAnswer (Read slot at) bytes files = bytes ≡ slice_range (file_at files slot) at (at + length bytes)
IsAnswer (Written slot at) bytes files = Unit {0}
IsAnswer (Cut slot len) bytes files = len ≤ length (file_at files slot)
IsAnswer (Synced slot) bytes files = Unit {0}
IsAnswer Failed bytes files = Unit {0}
IsAnswer (WriteFailed slot at) bytes files = Unit {0}
IsAnswer (CutFailed slot len) bytes files = Unit {0}

-- what came back was each time that of files which keep what they are given
abbrev pub AreAnswers : Outside → List DiskEvent → Type 0
AreAnswers outside [] = Unit {0}
AreAnswers outside (event ∷ earlier) =
    IsAnswer event.0 event.1 (files_after outside earlier) × AreAnswers outside earlier

-- Counted frames, of which some are free.
use Rattle.std.specs.Prelude.{◌≡◌, ◌≢◌, ℕ, ◌<◌, List, length, slice_index_or, Option, Some, None, refl, IsSome}
use Rattle.std.specs.Option.{option_map_or}
use Rattle.std.specs.Coded.{Coded, code_by, coded×, coded_ℕ, coded_list, coded_option}
use Rattle.sd_frames.specs.Bytes.{zeros}

-- a frame in use: how many entries have it, and its bytes
pub record Cell : Type 0 where
  pub count : ℕ
  pub bytes : List ℕ

abbrev pub cell_code : Coded Cell
cell_code = code_by (ℕ × List ℕ) (coded× coded_ℕ (coded_list coded_ℕ)) (λ c. (c.count, c.bytes))
    (λ t. record { count = t.0; bytes = t.1 }) (λ _. refl)

-- how many frames there may be, and those that were made so far; one that isn't in use is none
pub record Pool : Type 0 where
  pub size : ℕ
  pub cells : List (Option Cell)

abbrev pub pool_code : Coded Pool
pool_code = code_by (ℕ × List (Option Cell)) (coded× coded_ℕ (coded_list (coded_option cell_code)))
    (λ p. (p.size, p.cells)) (λ t. record { size = t.0; cells = t.1 }) (λ _. refl)

-- the frame of a number, if it is in use
abbrev pub cell_at : Pool → ℕ → Option Cell
cell_at pool number = slice_index_or pool.cells number None

-- how many entries have a frame
abbrev pub count_at : Pool → ℕ → ℕ
count_at pool number = option_map_or (λ (cell : Cell). cell.count) (cell_at pool number) 0

-- a frame's bytes
abbrev pub cell_bytes : Pool → ℕ → List ℕ
cell_bytes pool number = option_map_or (λ (cell : Cell). cell.bytes) (cell_at pool number) zeros

-- the bytes of a page with this frame; without one it reads as zeros
abbrev pub frame_bytes : Pool → Option ℕ → List ℕ
frame_bytes pool None = zeros
frame_bytes pool (Some frame) = cell_bytes pool frame

-- one frame changed, and all else is as before
pub record SetsCell (old new : Pool) (number : ℕ) (cell : Option Cell) : Type 0 where
  pub size : new.size ≡ old.size
  pub here : cell_at new number ≡ cell
  pub others : (other : ℕ) → other ≢ number → cell_at new other ≡ cell_at old other

-- each frame in use has 4,096 bytes
abbrev pub HasWholeFrames : Pool → Type 0
HasWholeFrames pool = (number : ℕ) (cell : Cell) → cell_at pool number ≡ Some cell → length cell.bytes ≡ 4096

-- each frame of the pool is in use
abbrev pub IsExhausted : Pool → Type 0
IsExhausted pool = (number : ℕ) → number < pool.size → IsSome (cell_at pool number)

-- some frame of the pool is free
abbrev pub HasFree : Pool → Type 0
HasFree pool = (number : ℕ) × (number < pool.size) × (cell_at pool number ≡ None)

-- a place was made that is free
abbrev pub HasFreePlace : Pool → Type 0
HasFreePlace pool = (number : ℕ) × (number < length pool.cells) × (cell_at pool number ≡ None)

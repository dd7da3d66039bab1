-- The frame that an entry has to itself after a fault.
use Rattle.std.specs.Prelude.{◌≡◌, ◌≢◌, ◌⊎◌, ℕ, ◌+◌, ◌<◌, Bool, true, false, ◌==◌, Option, Some, None}
use Rattle.std.specs.Option.{option_map_or}
use Rattle.sd_pagetable.specs.declared.memory_refusal.MemoryRefusal.TheVariants.{NoFrame}
use Rattle.sd_pagetable.specs.declared.access_error.AccessError.TheVariants.{Refused}
use Rattle.sd_pagetable.specs.declared.memory_error.MemoryError.{MemoryError}
use Rattle.sd_pagetable.specs.declared.memory_error.MemoryError.TheVariants.{Denied as DeniedError, OutOfMemory}
use Rattle.sd_frames.specs.Frames.{Pool, Cell, cell_at, count_at, cell_bytes, IsExhausted, HasFree, frame_bytes}

-- no other entry has the frame
abbrev pub is_own : Pool → Option ℕ → Bool
is_own pool frame = option_map_or (λ number. count_at pool number == 1) frame false

-- a free frame was taken for a copy of one that other entries have, if there was one
pub record TakesFrame (old new : Pool) (frame : Option ℕ) (own : ℕ) : Type 0 where
  pub size : new.size ≡ old.size
  pub within : own < old.size
  pub free : cell_at old own ≡ None
  pub here : cell_at new own ≡ Some (record { count = 1; bytes = frame_bytes old frame })
  pub count : (number : ℕ) → frame ≡ Some number → count_at new number + 1 ≡ count_at old number
  pub bytes : (number : ℕ) → frame ≡ Some number → cell_bytes new number ≡ cell_bytes old number
  pub others : (number : ℕ) → number ≢ own → (frame ≡ Some number → ⊥) → cell_at new number ≡ cell_at old number

-- the entry keeps its frame, or takes a free one
abbrev pub OwnsFrame : Pool → Pool → Option ℕ → ℕ → Type 0
OwnsFrame old new frame own = ((is_own old frame ≡ true) × (frame ≡ Some own) × (new ≡ old))
    ⊎ ((is_own old frame ≡ false) × TakesFrame old new frame own)

-- why no new frame was made: there is no memory for a free one, or none is free
abbrev pub FailsToTake : Pool → MemoryError → Type 0
FailsToTake pool error =
    ((error ≡ OutOfMemory) × HasFree pool) ⊎ ((error ≡ DeniedError (Refused NoFrame)) × IsExhausted pool)

-- one entry less has a frame, if there is one
pub record ReleasesFrame (old new : Pool) (frame : Option ℕ) : Type 0 where
  pub size : new.size ≡ old.size
  pub count : (number : ℕ) → frame ≡ Some number → count_at new number + 1 ≡ count_at old number
  pub bytes : (number : ℕ) → frame ≡ Some number → (count_at old number ≡ 1 → ⊥)
      → cell_bytes new number ≡ cell_bytes old number
  pub used : (number : ℕ) (cell : Cell) → frame ≡ Some number → cell_at new number ≡ Some cell → 0 < cell.count
  pub others : (number : ℕ) → (frame ≡ Some number → ⊥) → cell_at new number ≡ cell_at old number

-- one entry more has a frame, if there is one
pub record SharesFrame (old new : Pool) (frame : Option ℕ) : Type 0 where
  pub size : new.size ≡ old.size
  pub count : (number : ℕ) → frame ≡ Some number → count_at new number ≡ count_at old number + 1
  pub bytes : (number : ℕ) → cell_bytes new number ≡ cell_bytes old number
  pub used : (number : ℕ) (cell : Cell) → frame ≡ Some number → cell_at new number ≡ Some cell → 0 < cell.count
  pub others : (number : ℕ) → (frame ≡ Some number → ⊥) → cell_at new number ≡ cell_at old number

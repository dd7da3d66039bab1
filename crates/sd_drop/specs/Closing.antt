-- A slot that is counted as closed, and one that is being closed.
use Rattle.std.specs.Prelude.{◌≡◌, ◌≢◌, ◌⊎◌, ℕ, false, List, [], length, slice_set}
use Rattle.sd_disk.specs.Contents.{file_at}
use Rattle.sd_image.specs.Image.{is_open}

-- the contents with a slot's file counted as closed
abbrev pub closed_at : List (List ℕ) → ℕ → List (List ℕ)
closed_at contents slot = slice_set contents slot []

-- A slot is closed now, or has its file still; and every other slot has its file.
pub record IsClosing (old : List (List ℕ)) (slot : ℕ) (new : List (List ℕ)) : Type 0 where
  pub count : length new ≡ length old
  pub here : (is_open (file_at new slot) ≡ false) ⊎ (file_at new slot ≡ file_at old slot)
  pub others : (other : ℕ) → other ≢ slot → file_at new other ≡ file_at old other

-- The places of frames: each in use, or a link in the chain of the free ones.
use Rattle.std.specs.Prelude.{◌≡◌, ℕ, Bool, true, false, ◌==◌, List, [], ◌∷◌, map, Option, Some, None}
use Rattle.std.specs.List.{slice_get, list_any}
use Rattle.sd_frames.specs.Frames.{Cell}
use Rattle.sd_frames.specs.declared.frame_cell.FrameCell.{FrameCell}
use Rattle.sd_frames.specs.declared.frame_cell.FrameCell.TheVariants.{Used, Free}

-- the frame in a place, if it is in use
abbrev pub cell_of : FrameCell → Option Cell
cell_of (Used cell) = Some cell
cell_of (Free next) = None

abbrev pub cells_of : List FrameCell → List (Option Cell)
cells_of slots = map cell_of slots

abbrev pub is_among : ℕ → List ℕ → Bool
is_among place places = list_any (λ other. other == place) places

-- from a first place on, each link leads to the next of these places, and none comes twice
abbrev pub AreLinked : List FrameCell → Option ℕ → List ℕ → Type 0
AreLinked slots first [] = first ≡ None
AreLinked slots first (place ∷ places) = (next : Option ℕ) × (first ≡ Some place)
    × (slice_get slots place ≡ Some (Free next)) × AreLinked slots next places × (is_among place places ≡ false)

-- the chain from a first place has each free place
abbrev pub IsFreeList : List FrameCell → Option ℕ → Type 0
IsFreeList slots first = (places : List ℕ) × AreLinked slots first places
    × ((place : ℕ) (next : Option ℕ) → slice_get slots place ≡ Some (Free next) → is_among place places ≡ true)

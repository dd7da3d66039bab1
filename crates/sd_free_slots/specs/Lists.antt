-- The list of the images that a merge closes, and the room for it.
use Rattle.std.specs.Prelude.{◌≡◌, ◌⊎◌, ℕ, ◌+◌, ◌<◌, ◌≤◌, Bool, true, false, List, [], ◌∷◌, ◌++◌, length, replicate}
use Rattle.std.specs.Prelude.{Option, Some, None, slice_get}
use Rattle.sd_chain.specs.Catalog.{Opened, Places, place_of}
use Rattle.sd_merge.specs.declared.retired.Retired.{Retired}
use Rattle.sd_free_slots.specs.Marks.{IsUnmarked}

-- what a slot gives to the list: the image of its serial, where it isn't marked and has one
abbrev pub listed_at : ℕ → Bool → Option ℕ → List Retired
listed_at slot true serial = []
listed_at slot false None = []
listed_at slot false (Some serial) = (record { serial = serial; slot = slot }) ∷ []

-- what the slots give, rising, where the first of these has this number
abbrev pub listed_from : ℕ → List Bool → List (Option ℕ) → List Retired
listed_from slot [] serials = []
listed_from slot (taken ∷ marks) [] = []
listed_from slot (taken ∷ marks) (serial ∷ serials) =
    listed_at slot taken serial ++ listed_from (slot + 1) marks serials

-- how many slots have a serial
abbrev pub noted : List (Option ℕ) → ℕ
noted [] = 0
noted (None ∷ serials) = noted serials
noted (Some serial ∷ serials) = 1 + noted serials

-- an image stands in the slot, and its serial is among these
pub record StandsInSlot (places : Places) (among : ℕ → Type 0) (slot serial : ℕ) : Type 0 where
  pub is_among : among serial
  pub image : Opened
  pub there : place_of places serial ≡ Some (Some image)
  pub at : image.slot ≡ slot

-- a slot has one of the serials whose images stand in it
pub record HasNoted (places : Places) (among : ℕ → Type 0) (serials : List (Option ℕ)) (slot : ℕ) : Type 0 where
  pub serial : ℕ
  pub noted_is : slice_get serials slot ≡ Some (Some serial)
  pub stands : StandsInSlot places among slot serial

-- The slots in which images of these serials stand have one of them each, and the others what they had. At most so many
-- are noted.
pub record Notes (places : Places) (among : ℕ → Type 0) (many : ℕ) (old new : List (Option ℕ)) : Type 0 where
  pub count : length new ≡ length old
  pub each : (slot serial : ℕ) → slice_get new slot ≡ Some (Some serial)
      → (slice_get old slot ≡ Some (Some serial)) ⊎ StandsInSlot places among slot serial
  pub kept : (slot serial : ℕ) → slice_get old slot ≡ Some (Some serial)
      → (slice_get new slot ≡ Some (Some serial)) ⊎ HasNoted places among new slot
  pub all : (slot serial : ℕ) → slot < length old → StandsInSlot places among slot serial
      → HasNoted places among new slot
  pub few : noted new ≤ many + noted old

-- no slot is marked, no serial is noted, the list is empty, and there is room for all slots
pub record HasRoomForSlots (marks : List Bool) (serials : List (Option ℕ)) (list : List Retired)
    (room : ℕ) : Type 0 where
  pub unmarked : IsUnmarked marks
  pub none : serials ≡ replicate (length marks) None
  pub empty : list ≡ []
  pub enough : length marks ≤ room

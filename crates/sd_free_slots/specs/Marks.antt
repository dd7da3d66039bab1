-- Marks of slots, one for each, and what marking adds to them.
use Rattle.std.specs.Prelude.{◌≡◌, ◌⊎◌, ◌↔◌, ℕ, ◌+◌, ◌<◌, Bool, true, if◌then◌else◌, List, [], ◌∷◌, length, Option}
use Rattle.std.specs.Prelude.{Some, slice_get}
use Rattle.sd_chain.specs.Catalog.{Opened, Places, place_of}
use Rattle.sd_chain.specs.Reaches.{ParentsFall, ReachesInCatalog}

-- a slot is marked
abbrev pub IsMarkedSlot : List Bool → ℕ → Type 0
IsMarkedSlot marks slot = slice_get marks slot ≡ Some true

-- no slot is
abbrev pub IsUnmarked : List Bool → Type 0
IsUnmarked marks = (slot : ℕ) → IsMarkedSlot marks slot → ⊥

-- the slots that aren't marked, rising, where the first of these has this number
abbrev pub free_from : ℕ → List Bool → List ℕ
free_from slot [] = []
free_from slot (taken ∷ rest) = if taken then free_from (slot + 1) rest else slot ∷ free_from (slot + 1) rest

-- an image that the image of a serial reaches stands in a slot
pub record IsReachedAt (places : Places) (serial slot : ℕ) : Type 0 where
  pub from : Opened
  pub there : place_of places serial ≡ Some (Some from)
  pub image : Opened
  pub reaches : ReachesInCatalog places image from
  pub at : image.slot ≡ slot

-- Slots of these are marked too, and no other.
pub record TakesSlots (P : ℕ → Type 0) (old new : List Bool) : Type 0 where
  pub count : length new ≡ length old
  pub exact : (slot : ℕ) → slot < length old → IsMarkedSlot new slot ↔ (IsMarkedSlot old slot ⊎ P slot)

-- So it is where the parents' numbers fall; in any case what was marked stays so.
pub record TakesNeeded (places : Places) (P : ℕ → Type 0) (old new : List Bool) : Type 0 where
  pub count : length new ≡ length old
  pub kept : (slot : ℕ) → IsMarkedSlot old slot → IsMarkedSlot new slot
  pub exact : ParentsFall places → (slot : ℕ) → slot < length old
      → IsMarkedSlot new slot ↔ (IsMarkedSlot old slot ⊎ P slot)

-- it is what an image of this serial reaches, if a serial there is
pub record IsReachedFrom (places : Places) (root : Option ℕ) (slot : ℕ) : Type 0 where
  pub serial : ℕ
  pub is : root ≡ Some serial
  pub at : IsReachedAt places serial slot

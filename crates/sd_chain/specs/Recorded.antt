-- A catalog and images, without files: also of a live store, where a slot may be closing or be filled.
use Rattle.std.specs.Prelude.{◌≡◌, ◌≢◌, ◌↔◌, ℕ, ◌+◌, ◌*◌, ◌<◌, List, ◌∷◌, Option, Some, Contains, replicate, slice_get}
use Rattle.sd_image.specs.declared.run.RunKind.TheVariants.{Data}
use Rattle.sd_image.specs.Image.{Image}
use Rattle.sd_image.specs.Shows.{Holds, IsNamed, IsTip, pages_of}
use Rattle.sd_chain.specs.declared.found.Found.{Found}
use Rattle.sd_chain.specs.declared.found.Found.TheVariants as found
use Rattle.sd_chain.specs.Catalog.{Opened, Places, IsHeld, Changes, images, place_of, without_slot}
use Rattle.sd_chain.specs.Catalog as catalog
use Rattle.sd_chain.specs.Reaches.{ParentsFall}
use Rattle.sd_chain.specs.Ways.{LiesAt}

-- an open image of a catalog has the header and the table of an image
pub record IsRecordedAs (i : Opened) (image : Image) : Type 0 where
  pub header : image.header ≡ i.header
  pub spaces : image.spaces ≡ i.spaces

-- each image of the catalog is one of these, and each of these is in the catalog
pub record CatalogLists (places : Places) (all : List Image) : Type 0 where
  pub image : (i : Opened) → Contains (images places) i → (image : Image) × Contains all image × IsRecordedAs i image
  pub opened : (image : Image) → Contains all image → (i : Opened) × Contains (images places) i × IsRecordedAs i image

-- a page's bytes are stored where it lies: zeros, or a data page of the image that is in the slot
abbrev pub IsStoredAt : Places → List Image → Found → List ℕ → Type 0
IsStoredAt places all found.Zero bytes = bytes ≡ replicate 4096 0
IsStoredAt places all (found.Data slot offset) bytes =
    (i : Opened) × (image : Image) × (place : ℕ) × Contains (images places) i × Contains all image
    × IsRecordedAs i image
    × (i.slot ≡ slot) × (offset ≡ 4096 + 4096 * place) × (slice_get image.pages place ≡ Some bytes)

-- each data page that a table lists is there
abbrev pub HaveDataPages : List Image → Type 0
HaveDataPages all = (image : Image) → Contains all image → (place : ℕ) (page : ℕ × ℕ)
    → slice_get (pages_of Data image.spaces) place ≡ Some page
    → (bytes : List ℕ) × (slice_get image.pages place ≡ Some bytes)

-- The tip, what a number names and where pages lie are the same in both.
pub record Agrees (places : Places) (all : List Image) : Type 0 where
  pub at : (serial : ℕ) (i : Opened) → place_of places serial ≡ Some (Some i)
      → (image : Image) × Contains all image × IsRecordedAs i image × (image.header.serial ≡ serial)
  pub stands : (image : Image) → Contains all image
      → (i : Opened) × (place_of places image.header.serial ≡ Some (Some i)) × IsRecordedAs i image
  pub tip : (i : Opened) (image : Image) → Contains (images places) i → Contains all image → IsRecordedAs i image
      → catalog.IsTip places i ↔ IsTip all image
  pub named : (number : ℕ) (i : Opened) (image : Image) → Contains (images places) i → Contains all image
      → IsRecordedAs i image
      → catalog.Names places number i ↔ IsNamed all number image
  pub held : (page : ℕ × ℕ) (bytes : List ℕ) (i : Opened) (image : Image) → Contains (images places) i
      → Contains all image → IsRecordedAs i image
      → Holds all page.0 page.1 bytes image
      → (there : Found) × LiesAt places page there i × IsStoredAt places all there bytes
  pub lies : HaveDataPages all → (page : ℕ × ℕ) (there : Found) (i : Opened) (image : Image)
      → Contains (images places) i
      → Contains all image → IsRecordedAs i image
      → LiesAt places page there i
      → (bytes : List ℕ) × Holds all page.0 page.1 bytes image × IsStoredAt places all there bytes
  pub fall : ParentsFall places ↔ ((image : Image) → Contains all image → image.header.parent < image.header.stands_for)

-- What the changes of a catalog do to its images. The places of a catalog are in order, before and after.

-- holding and releasing a place leave them
abbrev pub HeldPlacesRecordNothing : Type 0
HeldPlacesRecordNothing = (old new : Places) (serial : ℕ) (place : Option (Option Opened)) (all : List Image)
    → catalog.AreInOrder old → catalog.AreInOrder new
    → ((i : Opened) → place_of old serial ≡ Some (Some i) → ⊥) → ((i : Opened) → place ≡ Some (Some i) → ⊥)
    → Changes old new serial place
    → CatalogLists old all ↔ CatalogLists new all

-- adding an image adds it
abbrev pub AddedImageIsRecorded : Type 0
AddedImageIsRecorded =
    (old new : Places) (i : Opened) (image : Image) (all : List Image) → catalog.AreInOrder old → catalog.AreInOrder new
    → ((other : Opened) → place_of old i.header.serial ≡ Some (Some other) → ⊥)
    → Changes old new i.header.serial (Some (Some i)) → IsRecordedAs i image
    → (CatalogLists old all → CatalogLists new (image ∷ all))
    × (((other : Image) → Contains all other → other.header.serial ≢ i.header.serial) → CatalogLists new (image ∷ all)
    → CatalogLists old all)

-- these are the images that are in other slots
abbrev pub AreElsewhere : Places → ℕ → List Image → List Image → Type 0
AreElsewhere old slot all left = (image : Image)
    → Contains left image ↔
    (Contains all image × ((i : Opened) → place_of old image.header.serial ≡ Some (Some i) → i.slot ≢ slot))

-- removing a slot leaves those that are in other slots
abbrev pub RemovedSlotIsUnrecorded : Type 0
RemovedSlotIsUnrecorded =
    (old new : Places) (slot : ℕ) (all left : List Image) → catalog.AreInOrder old → catalog.AreInOrder new
    → ((serial : ℕ) → place_of new serial ≡ without_slot slot (place_of old serial)) → AreElsewhere old slot all left
    → CatalogLists old all → CatalogLists new left

-- the images of a slot are recorded by some of these, and those of these that have its serials record them
pub record AreRecordedAt (old : Places) (slot : ℕ) (all : List Image) : Type 0 where
  pub image : (i : Opened) → Contains (images old) i → i.slot ≡ slot
      → (image : Image) × Contains all image × IsRecordedAs i image
  pub opened : (image : Image) (i : Opened) → Contains all image → place_of old image.header.serial ≡ Some (Some i)
      → i.slot ≡ slot → IsRecordedAs i image

-- and where those that are left are recorded afterwards, all were before
abbrev pub RemovedSlotWasRecorded : Type 0
RemovedSlotWasRecorded =
    (old new : Places) (slot : ℕ) (all left : List Image) → catalog.AreInOrder old → catalog.AreInOrder new
    → ((serial : ℕ) → place_of new serial ≡ without_slot slot (place_of old serial)) → AreElsewhere old slot all left
    → AreRecordedAt old slot all
    → CatalogLists new left → CatalogLists old all

-- The catalog of a store: its images are those of the open slots.
use Rattle.std.specs.Prelude.{◌≡◌, ◌↔◌, ℕ, ◌+◌, ◌<◌, ◌≤◌, true, List, [], length, Option, Some, MatchOption, Contains}
use Rattle.std.specs.Prelude.{replicate, slice_get, slice_index_or, slice_range}
use Rattle.std.specs.Borrow.{Bor}
use Rattle.sd_image.specs.Image.{Image, IsImage, is_open}
use Rattle.sd_image.specs.Shows.{Holds, IsNamed, IsRestorable, IsStore, IsTip}
use Rattle.sd_chain.specs.declared.found.Found.{Found}
use Rattle.sd_chain.specs.declared.found.Found.TheVariants as found
use Rattle.sd_chain.specs.Catalog.{Opened, Places, Names, images, place_of}
use Rattle.sd_chain.specs.Reaches.{ParentsFall}

-- an open image of the catalog is the image of its slot's file
pub record IsOpenedAs (contents : List (List ℕ)) (i : Opened) (image : Image) : Type 0 where
  pub file : List ℕ
  pub slot : slice_get contents i.slot ≡ Some file
  pub spelled : IsImage file image
  pub header : image.header ≡ i.header
  pub spaces : image.spaces ≡ i.spaces

-- The catalog of these contents: each of its images is that of its slot's file, and each open slot has its image in it.
pub record IsCatalogOf (contents : List (List ℕ)) (places : Places) : Type 0 where
  pub sound : (serial : ℕ) (i : Opened) → place_of places serial ≡ Some (Some i)
      → (image : Image) × IsOpenedAs contents i image
  pub all : (slot : ℕ) (file : List ℕ) → slice_get contents slot ≡ Some file → is_open file ≡ true
      → (serial : ℕ) × (i : Opened) × (place_of places serial ≡ Some (Some i)) × (i.slot ≡ slot)

-- The images of a catalog of contents are those of the contents, and a number names alike in both.
pub record HasTheImages (contents : List (List ℕ)) (places : Places) (all : List Image) : Type 0 where
  pub image : (i : Opened) → Contains (images places) i
      → (image : Image) × Contains all image × IsOpenedAs contents i image
  pub opened : (image : Image) → Contains all image
      → (i : Opened) × Contains (images places) i × IsOpenedAs contents i image
  pub named : (number : ℕ) (i : Opened) (image : Image) → IsOpenedAs contents i image → Names places number i
      → IsNamed all number image
  pub names : (number : ℕ) (i : Opened) (image : Image) → Contains (images places) i → IsOpenedAs contents i image
      → IsNamed all number image → Names places number i
  pub fall : ParentsFall places

-- the file of a slot
abbrev pub file_at : List (List ℕ) → ℕ → List ℕ
file_at contents slot = slice_index_or contents slot []

-- the bytes of a page that lies there
abbrev pub bytes_at : List (List ℕ) → Found → List ℕ
bytes_at contents found.Zero = replicate 4096 0
bytes_at contents (found.Data slot offset) = slice_range (file_at contents slot) offset (offset + 4096)

-- what lies there is within its file
abbrev pub IsInFile : List (List ℕ) → Found → Type 0
IsInFile contents found.Zero = Unit {0}
IsInFile contents (found.Data slot offset) = (slot < length contents) × (offset + 4096 ≤ length (file_at contents slot))

-- the image that a number names among these was found, or there is none
abbrev pub FindsNamed : List (List ℕ) → List Image → ℕ → Option (Bor Opened) → Type 0
FindsNamed contents images number chosen = MatchOption chosen
    ((image : Image) → IsNamed images number image → ⊥)
    (λ i. (image : Image) × IsOpenedAs contents i.now image × IsNamed images number image)

-- the contents are a store, and its newest image was found, or it has none that is restored
pub record FindsTip (contents : List (List ℕ)) (chosen : Option (Bor Opened)) : Type 0 where
  pub images : List Image
  pub store : IsStore contents images
  pub newest : MatchOption chosen
      ((image : Image) → Contains images image → IsRestorable image → ⊥)
      (λ i. (image : Image) × IsOpenedAs contents i.now image × IsTip images image)

-- Where a page of an image was found, its bytes there are those that the image holds; where it was not, the image holds
-- none.
abbrev pub FindsHeld : List (List ℕ) → List Image → ℕ → ℕ × ℕ → Option Found → Type 0
FindsHeld contents images serial page place = (image : Image) → Contains images image → image.header.serial ≡ serial
    → (bytes : List ℕ)
    → Holds images page.0 page.1 bytes image ↔ MatchOption place ⊥ (λ there. bytes ≡ bytes_at contents there)

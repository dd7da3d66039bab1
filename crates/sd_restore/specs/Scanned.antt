-- What was found in the first slots.
use Rattle.std.specs.Prelude.{◌≡◌, ◌==◌, ℕ, ◌<◌, Bool, true, false, List, map, filter, take, length, All, Option, None}
use Rattle.std.specs.Prelude.{Some, MatchOption}
use Rattle.std.specs.List.{list_any}
use Rattle.sd_image.specs.Image.{Image, is_open}
use Rattle.sd_image.specs.Shows.{IsStore}
use Rattle.sd_chain.specs.Catalog.{IsHeld, Opened, Places, place_of, images}
use Rattle.sd_chain.specs.Store.{IsCatalogOf}
use Rattle.sd_chain.specs.Ways.{AreImages}
use Rattle.sd_restore.specs.declared.scanned.Scanned.{Scanned}
use Rattle.sd_restore.specs.Faulty.{AreReadable, IsFirstDouble}

-- a place has an image
abbrev pub has_image : Option (Option Opened) → Bool
has_image None = false
has_image (Some None) = false
has_image (Some (Some i)) = true

-- slots that are a store, with their catalog: an image stands at each of their serials, and at no other number
pub record IsScan (files : List (List ℕ)) (places : Places) : Type 0 where
  pub catalog : IsCatalogOf files places
  pub images : List Image
  pub store : IsStore files images
  pub serials : (serial : ℕ)
      → has_image (place_of places serial)
      ≡ list_any (λ other. serial == other) (map (λ (i : Image). i.header.serial) images)

-- what was read, also of a device that lied: the images are in so many slots, their tables are tables, and their
-- parents fall; no place is held
pub record AreRead (count : ℕ) (places : Places) : Type 0 where
  pub none_held : (serial : ℕ) → IsHeld places serial → ⊥
  pub slots : All (λ i. i.slot < count) (images places)
  pub are : AreImages places

-- the first slots are readable, and have a catalog, or a first double serial among them
pub record IsScanned (contents : List (List ℕ)) (count : ℕ) (scanned : Scanned) : Type 0 where
  pub readable : AreReadable (take count contents)
  pub counted : scanned.images ≡ length (filter is_open (take count contents))
  pub state : MatchOption scanned.double (IsScan (take count contents) scanned.catalog) (IsFirstDouble contents)

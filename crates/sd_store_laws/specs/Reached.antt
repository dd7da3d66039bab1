-- Following parents by number, over lists of images.
use Rattle.std.specs.Prelude.{◌≡◌, ◌↔◌, ℕ, List, Contains}
use Rattle.sd_image.specs.Image.{Image, OpenImages}
use Rattle.sd_image.specs.Shows.{IsNamed}
use Rattle.sd_chain.specs.Catalog.{Places}
use Rattle.sd_chain.specs.Reaches.{ParentsFall, ReachesSerial}
use Rattle.sd_chain.specs.Store.{IsCatalogOf}

-- An image reaches itself, the image that its header's parent names, also where it has no page there, and what that one
-- reaches.
pub data Reaches (images : List Image) (end : Image) : Image → Type 0 where
  itself : Reaches images end end
  beyond : (i parent : Image) → IsNamed images i.header.parent parent → Reaches images end parent → Reaches images end i

-- among these images, one with the first serial reaches one with the other
abbrev pub ReachesBySerial : List Image → ℕ → ℕ → Type 0
ReachesBySerial images serial reached = (i : Image) × (j : Image) × Contains images i × (i.header.serial ≡ serial)
    × Reaches images j i × (j.header.serial ≡ reached)

-- What an image of a catalog reaches, by serial, is what the image of the contents reaches.
abbrev pub CatalogReachesSo : Places → Type 0
CatalogReachesSo places =
    (contents : List (List ℕ)) (all : List Image) → IsCatalogOf contents places → OpenImages contents all
    → (serial reached : ℕ) → ReachesSerial places serial reached ↔ ReachesBySerial all serial reached

-- The parents of a catalog of contents fall.
abbrev pub CatalogFalls : Places → Type 0
CatalogFalls places = (contents : List (List ℕ)) (all : List Image) → IsCatalogOf contents places
    → OpenImages contents all → ParentsFall places

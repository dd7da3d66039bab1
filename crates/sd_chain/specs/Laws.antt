-- What the layers above use of a catalog of contents, each a law that a function with an empty body carries.
use Rattle.std.specs.Prelude.{◌≡◌, ℕ, false, List, [], ◌∷◌, ◌++◌, length, Some}
use Rattle.sd_image.specs.Image.{Image, IsImage, is_open}
use Rattle.sd_chain.specs.Catalog.{Opened, Places, Changes, place_of}
use Rattle.sd_chain.specs.Store.{IsCatalogOf}

-- Without slots there are no images.
abbrev pub EmptyCatalog : Type 0
EmptyCatalog = IsCatalogOf [] []

-- A closed slot more leaves the catalog.
abbrev pub ClosedSlotAddsNothing : Type 0
ClosedSlotAddsNothing = (contents : List (List ℕ)) (places : Places) (file : List ℕ)
    → IsCatalogOf contents places → is_open file ≡ false → IsCatalogOf (contents ++ file ∷ []) places

-- A slot more that is an image, with a serial that no other has, adds it to the catalog.
abbrev pub OpenSlotAddsItsImage : Type 0
OpenSlotAddsItsImage = (contents : List (List ℕ)) (old new : Places) (file : List ℕ) (i : Opened) (image : Image)
    → IsCatalogOf contents old → IsImage file image → image.header ≡ i.header → image.spaces ≡ i.spaces
    → i.slot ≡ length contents
    → ((other : Opened) → place_of old i.header.serial ≡ Some (Some other) → ⊥)
    → Changes old new i.header.serial (Some (Some i)) → IsCatalogOf (contents ++ file ∷ []) new

-- Following parents by number.
use Rattle.std.specs.Prelude.{◌≡◌, ◌⊎◌, ℕ, ◌<◌, List, [], ◌∷◌, ◌++◌, Some, All, Contains}
use Rattle.sd_chain.specs.Catalog.{Places, Opened, Names, images, place_of}

-- An image reaches itself, the open image that its header's parent names, also where it has no page there, and what
-- that one reaches.
pub data ReachesInCatalog (places : Places) (end : Opened) : Opened → Type 0 where
  itself : ReachesInCatalog places end end
  beyond : (i parent : Opened) → Names places i.header.parent parent → ReachesInCatalog places end parent
      → ReachesInCatalog places end i

-- a serial is that of an image that the open image of another serial reaches
abbrev pub ReachesSerial : Places → ℕ → ℕ → Type 0
ReachesSerial places serial reached = (i : Opened) × (j : Opened) × Contains (images places) i
    × (i.header.serial ≡ serial) × ReachesInCatalog places j i × (j.header.serial ≡ reached)

-- each image's parent number is below the number that it stands for
abbrev pub ParentsFall : Places → Type 0
ParentsFall places = All (λ i. i.header.parent < i.header.stands_for) (images places)

-- the serials from an image up to another, which isn't among them: each image is named by the parent number of the one
-- before
abbrev pub IsPath : Places → Opened → List ℕ → Opened → Type 0
IsPath places i [] j = i ≡ j
IsPath places i (serial ∷ rest) j =
    (serial ≡ i.header.serial) × ((p : Opened) × Names places i.header.parent p × IsPath places p rest j)

-- the serials of the chain of an image, from it on, up to one whose parent number names no image
pub record IsWholeChain (places : Places) (serial : ℕ) (list : List ℕ) : Type 0 where
  pub first : Opened
  pub there : place_of places serial ≡ Some (Some first)
  pub last : Opened
  pub front : List ℕ
  pub path : IsPath places first front last
  pub are : list ≡ front ++ last.header.serial ∷ []
  pub ends : (p : Opened) → Names places last.header.parent p → ⊥

-- the chain of the image of a serial, or nothing where no image has it
abbrev pub IsChain : Places → ℕ → List ℕ → Type 0
IsChain places serial list =
    (((i : Opened) → place_of places serial ≡ Some (Some i) → ⊥) × (list ≡ [])) ⊎ IsWholeChain places serial list

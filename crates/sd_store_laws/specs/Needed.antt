-- The images of a catalog that nobody may close: the tip, and what the tip and the jobs call for by number.
use Rattle.std.specs.Prelude.{◌≡◌, ◌↔◌, ◌⊎◌, ℕ, List, Contains}
use Rattle.sd_image.specs.Image.{Image}
use Rattle.sd_image.specs.Shows.{IsNamed, IsTip}
use Rattle.sd_store_laws.specs.Reached.{Reaches}

-- A number is referenced: it is the tip's parent, or a job's number, or the parent of what a referenced number names.
pub data IsCalled (images : List Image) (jobs : List ℕ) : ℕ → Type 0 where
  by_tip : (number : ℕ) (tip : Image) → IsTip images tip → tip.header.parent ≡ number → IsCalled images jobs number
  by_job : (number : ℕ) → Contains jobs number → IsCalled images jobs number
  by_parent : (number before : ℕ) (i : Image) → IsCalled images jobs before → IsNamed images before i
      → i.header.parent ≡ number → IsCalled images jobs number

-- an image that a referenced number names
abbrev pub IsCalledFor : List Image → List ℕ → Image → Type 0
IsCalledFor images jobs i = (number : ℕ) × IsCalled images jobs number × IsNamed images number i

-- the tip, or what a referenced number names
abbrev pub IsNeeded : List Image → List ℕ → Image → Type 0
IsNeeded images jobs i = IsTip images i ⊎ IsCalledFor images jobs i

-- reached from the tip, or from what a job's number names
abbrev pub IsReached : List Image → List ℕ → Image → Type 0
IsReached images jobs i =
    ((tip : Image) × IsTip images tip × Reaches images i tip)
    ⊎ ((number : ℕ) × (start : Image) × Contains jobs number × IsNamed images number start × Reaches images i start)

-- Needed is the same as reached from the tip, or from what a job's number names.
abbrev pub NeededIsReached : Type 0
NeededIsReached = (images : List Image) (jobs : List ℕ) (i : Image) → IsNeeded images jobs i ↔ IsReached images jobs i

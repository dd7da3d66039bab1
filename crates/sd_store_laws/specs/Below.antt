-- What a referenced number gives at a page: what the images below a job hold.
use Rattle.std.specs.Prelude.{◌↔◌, ℕ, List, ◌∷◌, Contains}
use Rattle.sd_image.specs.Image.{Image}
use Rattle.sd_image.specs.Laws.{SerialsDiffer}
use Rattle.sd_image.specs.Shows.{Holds, IsNamed, IsTip}
use Rattle.sd_store_laws.specs.Needed.{IsCalled, IsNeeded}
use Rattle.sd_store_laws.specs.Cut.{IsCut, KeepsItsNumber}
use Rattle.sd_store_laws.specs.Store.{IsNext, IsSoundStore, IsMergedCopy, Store, jobs}
use Rattle.sd_store_laws.specs.Steps.{Adds, Retires}

-- the image that a number names holds these bytes at a page
abbrev pub GivesByNumber : List Image → ℕ → ℕ → ℕ → List ℕ → Type 0
GivesByNumber images number space page bytes = (i : Image) × IsNamed images number i × Holds images space page bytes i

-- What a referenced number gives in a catalog it gives in whatever is left of it, and nothing else.
abbrev pub BelowStays : Type 0
BelowStays = (catalog adding images : List Image) (jobs : List ℕ) (number : ℕ)
    → SerialsDiffer catalog → IsCut catalog adding jobs images
    → ((added : Image) → Contains adding added → KeepsItsNumber catalog jobs added)
    → IsCalled catalog jobs number
    → (space page : ℕ) (bytes : List ℕ)
    → GivesByNumber catalog number space page bytes ↔ GivesByNumber images number space page bytes

-- each number that is referenced in a store gives among these images what it gives in the store
abbrev pub GivesStill : Store → List Image → Type 0
GivesStill s images = (number space page : ℕ) (bytes : List ℕ) → IsCalled s.catalog (jobs s) number
    → GivesByNumber s.catalog number space page bytes ↔ GivesByNumber images number space page bytes

-- So it stays through the steps that change the catalog: an image of the running checkpoint enters, the merged image
-- enters, images are closed.
pub record StepsGive : Type 0 where
  pub adds : (s : Store) (one : Image) (new : List Image) → IsSoundStore s → IsNext s one → Adds s.catalog one new
      → GivesStill s new
  pub replaces : (s : Store) (one : Image) (new : List Image) → IsSoundStore s → IsMergedCopy s.catalog s.source one
      → Adds s.catalog one new → GivesStill s new
  pub retires : (s : Store) (new : List Image) → IsSoundStore s → Retires s new → GivesStill s new

-- Where the tip's number names the tip, nothing more is needed if a job asks for that number.
abbrev pub OwnIsNeeded : Type 0
OwnIsNeeded = (catalog : List Image) (work : List ℕ) (tip i : Image) → SerialsDiffer catalog → IsTip catalog tip
    → IsNamed catalog tip.header.stands_for tip
    → IsNeeded catalog (tip.header.stands_for ∷ work) i → IsNeeded catalog work i

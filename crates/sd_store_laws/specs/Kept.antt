-- The images that users of a store keep, and the slots that are free.
use Rattle.std.specs.Prelude.{◌≡◌, ◌↔◌, ◌⊎◌, ℕ, ◌<◌, List, [], ◌∷◌, length, Some, MatchOption, Contains}
use Rattle.sd_image.specs.Image.{Image}
use Rattle.sd_image.specs.Shows.{IsNamed, IsTip}
use Rattle.sd_store_laws.specs.Reached.{Reaches}
use Rattle.sd_store_laws.specs.Needs.{IsNeededIn, IsUnneeded}
use Rattle.sd_store_laws.specs.Store.{IsSoundStore, Store}
use Rattle.sd_store_laws.specs.Steps.{added, cancelled, checkpoint_begun, committed, found_store, merging, replaced}
use Rattle.sd_store_laws.specs.Steps.{retired}
use Rattle.sd_store_laws.specs.Beliefs.{Belief, image_at}

-- the image that the running checkpoint's next parent number names: the last one that it made, or the tip that it began
-- from
abbrev pub IsLastOfRunning : Store → Image → Type 0
IsLastOfRunning s i = (number : ℕ) × Contains s.chain number × IsNamed s.catalog number i

-- Reached from the tip, from the running checkpoint's last image, or from the source of a running merge.
abbrev pub IsLive : Store → Image → Type 0
IsLive s i =
    ((tip : Image) × IsTip s.catalog tip × Reaches s.catalog i tip)
    ⊎ (((last : Image) × IsLastOfRunning s last × Reaches s.catalog i last)
    ⊎ ((source : Image) × (s.source ≡ Some source) × Reaches s.catalog i source))

-- the work of a running merge is its source's parent, and there is none without one
abbrev pub HasItsWork : Store → Type 0
HasItsWork s = MatchOption s.source (s.work ≡ []) (λ source. s.work ≡ source.header.parent ∷ [])

-- That is what is needed, and the source.
abbrev pub LiveIsNeeded : Type 0
LiveIsNeeded =
    (s : Store) (i : Image) → IsSoundStore s → HasItsWork s → IsLive s i ↔ (IsNeededIn s i ⊎ (s.source ≡ Some i))

-- A slot is free where no live image stands in it, no job reserves it, and no merge is to close it.
pub record IsFreeSlot (s : Store) (beliefs : List Belief) (reserved listed : List ℕ) (slot : ℕ) : Type 0 where
  pub within : slot < length beliefs
  pub unused : (i : Image) → image_at beliefs slot ≡ Some i → IsLive s i → ⊥
  pub unreserved : Contains reserved slot → ⊥
  pub unlisted : Contains listed slot → ⊥

-- The images that a merge closes: of those that were in the catalog as it began and still are, the ones that aren't in
-- use and whose slots aren't reserved.
pub record IsClosedByMerge (before : List Image) (s : Store) (beliefs : List Belief) (reserved : List ℕ)
    (i : Image) : Type 0 where
  pub was : Contains before i
  pub member : Contains s.catalog i
  pub unused : IsLive s i → ⊥
  pub unreserved : (slot : ℕ) → image_at beliefs slot ≡ Some i → Contains reserved slot → ⊥

-- They are images of the catalog that may be closed; and no image that is needed stands in a free slot.
pub record RetiresUnneeded : Type 0 where
  pub unneeded : (before : List Image) (s : Store) (beliefs : List Belief) (reserved : List ℕ) (i : Image)
      → IsSoundStore s
      → HasItsWork s
      → IsClosedByMerge before s beliefs reserved i → IsUnneeded s i
  pub free : (s : Store) (beliefs : List Belief) (reserved listed : List ℕ) (slot : ℕ) (i : Image) → IsSoundStore s
      → HasItsWork s
      → IsFreeSlot s beliefs reserved listed slot → image_at beliefs slot ≡ Some i → IsNeededIn s i → ⊥

-- Each step keeps the work that of the running merge.
pub record WorkStays : Type 0 where
  pub begins : (s : Store) (number : ℕ) → HasItsWork s → HasItsWork (checkpoint_begun s number)
  pub adds : (s : Store) (new : List Image) (number : ℕ) → HasItsWork s → HasItsWork (added s new number)
  pub commits : (s : Store) (new : List Image) → HasItsWork s → HasItsWork (committed s new)
  pub cancels : (s : Store) → HasItsWork s → HasItsWork (cancelled s)
  pub merges : (s : Store) (tip : Image) → HasItsWork (merging s tip)
  pub replaces : (s : Store) (new : List Image) → HasItsWork (replaced s new)
  pub retires : (s : Store) (new : List Image) → HasItsWork s → HasItsWork (retired s new)
  pub opens : (images : List Image) → HasItsWork (found_store images)

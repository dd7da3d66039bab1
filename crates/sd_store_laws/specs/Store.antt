-- A live store: its open images and the numbers of its jobs, and what its steps keep.
use Rattle.std.specs.Prelude.{◌≡◌, ◌≢◌, ℕ, ◌<◌, Bool, true, List, ◌++◌, Option, Some, Contains, IfSome}
use Rattle.sd_image.specs.declared.header.Kind.TheVariants.{PreDump}
use Rattle.sd_image.specs.Image.{Image}
use Rattle.sd_image.specs.Shows.{IsNamed, IsRestorable, IsTip}
use Rattle.sd_image.specs.Laws.{SerialsDiffer}
use Rattle.sd_store_laws.specs.Cut.{Repeats}
use Rattle.sd_store_laws.specs.ShownStays.{IsSource, IsUnused}

-- the open images of a store, and what its workers need of them
pub record Store : Type 0 where
  pub catalog : List Image  -- the open images, and those that are being closed
  pub chain : List ℕ  -- the number that the next image of the running checkpoint has as its parent
  pub work : List ℕ  -- the parent of the running merge's source
  pub source : Option Image  -- that source
  pub grows : Bool  -- a checkpoint was acknowledged since the store was opened or a checkpoint cancelled

-- the numbers that jobs ask for
abbrev pub jobs : Store → List ℕ
jobs s = s.chain ++ s.work

-- the source of a running merge may be repeated, and what it is made of is asked for
pub record IsMergeSource (s : Store) (source : Image) : Type 0 where
  pub is : IsSource s.catalog (jobs s) source
  pub asked : Contains s.work source.header.parent
  pub falls : source.header.parent < source.header.stands_for

-- What every step of a store keeps.
pub record IsSoundStore (s : Store) : Type 0 where
  pub serials : SerialsDiffer s.catalog
  pub fall : (i : Image) → Contains s.catalog i → i.header.parent < i.header.stands_for
  pub tip : (tip : Image) → IsTip s.catalog tip → IsSource s.catalog (jobs s) tip
  pub merged : IfSome s.source (IsMergeSource s)
  pub own : s.grows ≡ true → (tip : Image) → IsTip s.catalog tip → IsNamed s.catalog tip.header.stands_for tip

-- an image to come: it stands for its own serial, which is new
pub record IsFresh (s : Store) (i : Image) : Type 0 where
  pub itself : i.header.stands_for ≡ i.header.serial
  pub serial : (j : Image) → Contains s.catalog j → j.header.serial ≢ i.header.serial
  pub number : IsUnused s.catalog (jobs s) i.header.stands_for
  pub apart : IfSome s.source (λ source. source.header.stands_for ≢ i.header.stands_for)
  pub falls : i.header.parent < i.header.stands_for

-- an image of the running checkpoint: its parent is the number that is next
pub record IsNext (s : Store) (i : Image) : Type 0 where
  pub fresh : IsFresh s i
  pub parent : Contains s.chain i.header.parent

-- an image that may be the next pre-dump of the running checkpoint
pub record IsNextPreDump (s : Store) (i : Image) : Type 0 where
  pub next : IsNext s i
  pub kind : i.header.kind ≡ PreDump

-- a dump whose checkpoint is above those of all others, and of the image that is being merged
pub record IsNextDump (s : Store) (i : Image) : Type 0 where
  pub next : IsNext s i
  pub restorable : IsRestorable i
  pub newest : (j : Image) → Contains s.catalog j → IsRestorable j → j.header.checkpoint < i.header.checkpoint
  pub above : IfSome s.source (λ source. source.header.checkpoint < i.header.checkpoint)

-- the image that a merge makes of its source, with a serial above those of all images that stand for the same number
pub record IsMergedCopy (catalog : List Image) (merge : Option Image) (twin : Image) : Type 0 where
  pub source : Image
  pub running : merge ≡ Some source
  pub repeats : Repeats catalog source twin
  pub restorable : IsRestorable twin
  pub alone : twin.header.parent ≡ 0
  pub falls : 0 < twin.header.stands_for
  pub serial : (j : Image) → Contains catalog j → j.header.serial ≢ twin.header.serial
  pub above : (j : Image) → Contains catalog j → j.header.stands_for ≡ twin.header.stands_for
      → j.header.serial < twin.header.serial

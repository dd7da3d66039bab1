-- When an image that is being added leaves what is shown.
use Rattle.std.specs.Prelude.{◌≡◌, ◌≢◌, ◌⊎◌, ℕ, ◌<◌, List, Contains}
use Rattle.sd_image.specs.declared.header.Kind.TheVariants.{PreDump}
use Rattle.sd_image.specs.Image.{Image}
use Rattle.sd_image.specs.Shows.{IsNamed, IsRestorable, IsTip}
use Rattle.sd_store_laws.specs.Needed.{IsCalled}
use Rattle.sd_store_laws.specs.Cut.{LeavesShown, IsPending, Repeats}

-- no image stands for a number or has it as its parent, and no job has it
pub record IsUnused (catalog : List Image) (jobs : List ℕ) (number : ℕ) : Type 0 where
  pub stands : (i : Image) → Contains catalog i → i.header.stands_for ≢ number
  pub names : (i : Image) → Contains catalog i → i.header.parent ≢ number
  pub asks : Contains jobs number → ⊥

-- An image that a merge may repeat: its number, if it is referenced, names it; and it is the tip, or has a smaller
-- checkpoint than the tip and stands for another number.
pub record IsSource (catalog : List Image) (jobs : List ℕ) (source : Image) : Type 0 where
  pub named : IsCalled catalog jobs source.header.stands_for → IsNamed catalog source.header.stands_for source
  pub tip : Image
  pub is_tip : IsTip catalog tip
  pub or_below : (source ≡ tip)
      ⊎ ((source.header.checkpoint < tip.header.checkpoint) × (source.header.stands_for ≢ tip.header.stands_for))

-- An unused number isn't referenced.
abbrev pub UnusedIsUncalled : Type 0
UnusedIsUncalled = (catalog : List Image) (jobs : List ℕ) (number : ℕ) → IsUnused catalog jobs number
    → IsCalled catalog jobs number → ⊥

-- A pre-dump that stands for an unused number leaves what is shown.
abbrev pub PreDumpLeavesShown : Type 0
PreDumpLeavesShown = (catalog : List Image) (jobs : List ℕ) (added : Image) → added.header.kind ≡ PreDump
    → IsUnused catalog jobs added.header.stands_for → LeavesShown catalog jobs added

-- An image that repeats a source leaves what is shown.
abbrev pub MergedCopyLeavesShown : Type 0
MergedCopyLeavesShown = (catalog : List Image) (jobs : List ℕ) (source twin : Image)
    → IsSource catalog jobs source → Repeats catalog source twin → LeavesShown catalog jobs twin

-- A dump is pending that stands for an unused number, names a job's number, and has a checkpoint above those of the
-- catalog.
abbrev pub DumpIsPending : Type 0
DumpIsPending = (catalog : List Image) (jobs : List ℕ) (added : Image) → IsRestorable added
    → IsUnused catalog jobs added.header.stands_for → Contains jobs added.header.parent
    → ((i : Image) → Contains catalog i → IsRestorable i → i.header.checkpoint < added.header.checkpoint)
    → IsPending catalog jobs added

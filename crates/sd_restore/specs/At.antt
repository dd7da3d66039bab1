-- The memory at a checkpoint: that of its image, whether it is the newest or not.
use Rattle.std.specs.Prelude.{ℕ, ◌≤◌, List, length, Some, Contains}
use Rattle.sd_areas.specs.PlainMemory.{PlainMemory}
use Rattle.sd_image.specs.declared.reason.Reason.{Reason}
use Rattle.sd_image.specs.Image.{Image, OpenImages}
use Rattle.sd_image.specs.Shows.{IsMemory, IsStore, Shows}
use Rattle.sd_chain.specs.Catalog.{Opened, Places, AreInOrder}
use Rattle.sd_chain.specs.Catalog as catalog
use Rattle.sd_chain.specs.Checkpoints.{IsOfCheckpoint, IsOfCheckpointAmong, LackCheckpoint}
use Rattle.sd_chain.specs.Store.{IsCatalogOf, IsOpenedAs}
use Rattle.sd_restore.specs.Faulty.{IsFirstBreak}
use Rattle.sd_restore.specs.Mapped.{mapped_pages}

-- contents have this memory at a checkpoint: that of its image
pub record ShowsAt (contents : List (List ℕ)) (number : ℕ) (memory : PlainMemory) : Type 0 where
  pub images : List Image
  pub store : IsStore contents images
  pub image : Image
  pub chosen : IsOfCheckpoint images number image
  pub is : IsMemory images image memory

-- contents are a store without an image of a checkpoint
pub record LacksAt (contents : List (List ℕ)) (number : ℕ) : Type 0 where
  pub images : List Image
  pub store : IsStore contents images
  pub none : LackCheckpoint images number

-- the slots are a store, and of the pages of a checkpoint's image the first whose chain breaks does so at the image of
-- this slot
pub record IsBrokenAt (contents : List (List ℕ)) (number slot : ℕ) (reason : Reason) : Type 0 where
  pub images : List Image
  pub store : IsStore contents images
  pub places : Places
  pub order : AreInOrder places
  pub files : IsCatalogOf contents places
  pub image : Opened
  pub chosen : IsOfCheckpointAmong (catalog.images places) number image
  pub first : IsFirstBreak places image.header.serial (mapped_pages image.spaces) slot reason

-- a checkpoint's image, where the contents are a store that has one, has at most so many mapped pages
abbrev pub HasPagesWithinAt : List (List ℕ) → ℕ → ℕ → Type 0
HasPagesWithinAt contents number count =
    (images : List Image) (i : Image) → IsStore contents images → IsOfCheckpoint images number i
    → length (mapped_pages i.spaces) ≤ count

-- Of any image of a catalog.

-- it is this one of the open images of contents
pub record IsAmong (contents : List (List ℕ)) (images : List Image) (i : Opened) (image : Image) : Type 0 where
  pub slots : OpenImages contents images
  pub member : Contains images image
  pub opened : IsOpenedAs contents i image

-- it stands for this memory
abbrev pub StandsFor : List (List ℕ) → Opened → PlainMemory → Type 0
StandsFor contents i memory =
    (images : List Image) (image : Image) → IsAmong contents images i image → IsMemory images image memory

-- What contents show is what they have at that checkpoint.
abbrev pub ShownIsAt : Type 0
ShownIsAt = (contents : List (List ℕ)) (number : ℕ) (memory : PlainMemory)
    → Shows contents (Some (number, memory)) → ShowsAt contents number memory

-- A memory that was copied, and is found where its copies are.
use Rattle.std.specs.Prelude.{◌≡◌, ℕ, List, map, Some, Contains}
use Rattle.std.specs.List.{AllZip}
use Rattle.sd_image.specs.Shows.{Shows}
use Rattle.sd_image.specs.Table.{Listed}
use Rattle.sd_chain.specs.Catalog.{Opened, Places, images}
use Rattle.sd_drop.specs.Reached.{IsReachedIn}
use Rattle.sd_restore.specs.Placed.{PlacedPage, placed_memory}
use Rattle.sd_receive.specs.declared.merging.CopiedMemory.{CopiedMemory}
use Rattle.sd_receive.specs.declared.merging.Merged.{Merged}
use Rattle.sd_receive.specs.Arrived.{HasArrived}
use Rattle.sd_receive.specs.Merged.{IsCopyOf, pages_seen}

-- an image of a catalog stands in this slot, which the newest checkpoint doesn't need
pub record IsUnneededAt (places : Places) (slot : ℕ) : Type 0 where
  pub image : Opened
  pub among : Contains (images places) image
  pub here : image.slot ≡ slot
  pub free : IsReachedIn places slot → ⊥

-- contents show the checkpoint and the spaces of a copied memory, with the bytes that they have where its copies are
pub record IsFoundAsCopied (contents : List (List ℕ)) (memory : CopiedMemory) : Type 0 where
  pub spaces : List Listed
  pub numbers : map (λ (s : Listed). s.space) spaces ≡ memory.spaces.items
  pub shows : Shows contents
      (Some (memory.checkpoint, placed_memory contents spaces (pages_seen memory.pages.items)))

-- What contents show was copied: all parts of its image have arrived in a slot, with a copy of each page.
pub record CopiesNewest (from contents : List (List ℕ)) (may_leave : List (List ℕ) → Type 0) (slot : ℕ)
    (merged : Merged) : Type 0 where
  pub arrived : HasArrived contents may_leave slot merged.header merged.arrived
  pub spaces : List Listed
  pub pages : List PlacedPage
  pub shown : Shows from (Some (merged.memory.checkpoint, placed_memory from spaces pages))
  pub numbers : map (λ (s : Listed). s.space) spaces ≡ merged.memory.spaces.items
  pub copies : AllZip (IsCopyOf from arrived.pages slot) pages (pages_seen merged.memory.pages.items)

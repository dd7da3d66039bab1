-- The catalog of a live store: its images are those that the slots keep or are closing.
use Rattle.std.specs.Prelude.{◌≡◌, ◌↔◌, ◌⊎◌, ℕ, List, Option, Some, slice_get}
use Rattle.std.specs.List.{AllZip}
use Rattle.sd_image.specs.Image.{Image}
use Rattle.sd_chain.specs.Catalog.{AreInOrder, Changes, Opened, Places, place_of, without_slot}
use Rattle.sd_chain.specs.Reaches.{ReachesSerial}
use Rattle.sd_chain.specs.Store.{IsCatalogOf}
use Rattle.sd_chain.specs.Recorded.{CatalogLists, IsRecordedAs}
use Rattle.sd_store_laws.specs.Reached.{ReachesBySerial}
use Rattle.sd_store_laws.specs.Store.{Store}
use Rattle.sd_store_laws.specs.Beliefs.{AreSlotsOf, Belief, Closed, Kept, Closing, Opening}
use Rattle.sd_store_laws.specs.SlotSteps.{IsFoundAs, with_belief}

-- a slot keeps an image, or is closing it
abbrev pub SlotHasImage : List Belief → ℕ → Image → Type 0
SlotHasImage beliefs slot i = (slice_get beliefs slot ≡ Some (Kept i)) ⊎ (slice_get beliefs slot ≡ Some (Closing i))

-- each image of the catalog is the one that its slot has, and each image that a slot has stands in the catalog at its
-- serial
pub record IsLiveCatalog (places : Places) (beliefs : List Belief) : Type 0 where
  pub image : (serial : ℕ) (o : Opened) → place_of places serial ≡ Some (Some o)
      → (i : Image) × IsRecordedAs o i × SlotHasImage beliefs o.slot i
  pub opened : (slot : ℕ) (i : Image) → SlotHasImage beliefs slot i
      → (o : Opened) × (place_of places i.header.serial ≡ Some (Some o)) × IsRecordedAs o i × (o.slot ≡ slot)

-- Such a catalog describes the store: so the tip, what numbers name and where pages lie are the store's.
abbrev pub LiveCatalogAgrees : Places → Type 0
LiveCatalogAgrees places = (s : Store) (pending : Option Image) (beliefs : List Belief)
    → AreSlotsOf s pending beliefs → IsLiveCatalog places beliefs → CatalogLists places s.catalog

-- What an image of a catalog reaches, by serial, is what the image reaches that it stands for.
abbrev pub RecordedReachesSo : Places → Type 0
RecordedReachesSo places = (all : List Image) → CatalogLists places all → (serial reached : ℕ)
    → ReachesSerial places serial reached ↔ ReachesBySerial all serial reached

-- The catalog of contents is that of the slots as they are found.
abbrev pub CatalogIsFound : Type 0
CatalogIsFound = (places : Places) (contents : List (List ℕ)) (beliefs : List Belief)
    → AreInOrder places → IsCatalogOf contents places → AllZip IsFoundAs beliefs contents
    → IsLiveCatalog places beliefs

-- A catalog follows the slots: it stays where none of its images changes but from kept to closing; the image of a slot
-- that was being opened is added; that of a slot that was closed is removed.
pub record CatalogFollows : Type 0 where
  pub stays : (places : Places) (beliefs new : List Belief)
      → ((slot : ℕ) (i : Image) → SlotHasImage beliefs slot i ↔ SlotHasImage new slot i)
      → IsLiveCatalog places beliefs → IsLiveCatalog places new
  pub adds : (old new : Places) (beliefs : List Belief) (o : Opened) (i : Image) → IsLiveCatalog old beliefs
      → slice_get beliefs o.slot ≡ Some (Opening i) → IsRecordedAs o i
      → ((other : Opened) → place_of old o.header.serial ≡ Some (Some other) → ⊥)
      → Changes old new o.header.serial (Some (Some o))
      → IsLiveCatalog new (with_belief beliefs o.slot (Kept i))
  pub removes : (old new : Places) (beliefs : List Belief) (slot : ℕ) (i : Image) → IsLiveCatalog old beliefs
      → slice_get beliefs slot ≡ Some (Closing i)
      → ((serial : ℕ) → place_of new serial ≡ without_slot slot (place_of old serial))
      → IsLiveCatalog new (with_belief beliefs slot Closed)

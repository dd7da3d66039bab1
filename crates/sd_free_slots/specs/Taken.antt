-- Which slots of a store are taken: by images that are needed, and by jobs.
use Rattle.std.specs.Prelude.{◌≡◌, ◌⊎◌, ◌↔◌, ℕ, ◌<◌, ◌≤◌, Bool, List, length, Option, Some, None, Contains, slice_get}
use Rattle.std.specs.Option.{option_map}
use Rattle.sd_chain.specs.Catalog.{IsTip, Names, Opened, Places, place_of}
use Rattle.sd_chain.specs.Reaches.{ParentsFall}
use Rattle.sd_gate.specs.declared.request_id.RequestId.{RequestId}
use Rattle.sd_merge.specs.declared.retired.Retired.{Retired}
use Rattle.sd_merge.specs.declared.source.Source.{Source}
use Rattle.sd_merge.specs.Merger as merger
use Rattle.sd_rounds.specs.Dumper.{HasSlot, Running}
use Rattle.sd_free_slots.specs.Marks.{IsMarkedSlot, IsReachedAt, free_from}

-- ---- images that are needed

-- the image that the parent number of the running checkpoint names
abbrev pub NamesParent : Places → Option Running → Opened → Type 0
NamesParent places None start = ⊥
NamesParent places (Some running) start = Names places running.parent start

-- the serial of the tip, of the image that the running checkpoint's parent number names, and of the one that a merge
-- repeats
pub record IsTipsSerial (places : Places) (serial : ℕ) : Type 0 where
  pub tip : Opened
  pub is : IsTip places tip
  pub own : serial ≡ tip.header.serial

pub record IsParentsSerial (places : Places) (running : Option Running) (serial : ℕ) : Type 0 where
  pub start : Opened
  pub names : NamesParent places running start
  pub own : serial ≡ start.header.serial

pub record IsSourcesSerial (merge : Option merger.Running) (serial : ℕ) : Type 0 where
  pub source : Source
  pub is : merger.source_of merge ≡ Some source
  pub own : serial ≡ source.serial

-- what is needed for itself
abbrev pub IsRoot : Places → Option Running → Option merger.Running → ℕ → Type 0
IsRoot places running merge serial =
    IsTipsSerial places serial ⊎ (IsParentsSerial places running serial ⊎ IsSourcesSerial merge serial)

-- an image that is needed stands in the slot: one of these, or one that they reach
pub record IsNeededAt (places : Places) (running : Option Running) (merge : Option merger.Running)
    (slot : ℕ) : Type 0 where
  pub root : ℕ
  pub is : IsRoot places running merge root
  pub at : IsReachedAt places root slot

-- ---- jobs

-- an image of a list stands in the slot, or stood
pub record IsListedSlot (list : List Retired) (slot : ℕ) : Type 0 where
  pub one : Retired
  pub listed : Contains list one
  pub at : one.slot ≡ slot

-- a request is out on the slot
pub record IsOutAt (outs : List (Option RequestId)) (slot : ℕ) : Type 0 where
  pub worker : ℕ
  pub id : RequestId
  pub out : slice_get outs worker ≡ Some (Some id)
  pub at : id.slot ≡ slot

abbrev pub slot_of_id : RequestId → ℕ
slot_of_id id = id.slot

-- the slot is one of the running checkpoint, that of a merged image, or on a merge's list, or a request is out on it
abbrev pub IsReservedBy : Option Running → Option merger.Running → List (Option RequestId) → ℕ → Type 0
IsReservedBy running merge outs slot = HasSlot running slot
    ⊎ ((option_map merger.slot_of merge ≡ Some slot) ⊎ (IsListedSlot (merger.list_of merge) slot ⊎ IsOutAt outs slot))

-- ---- free slots

-- a slot each is marked where it is taken; what jobs have is marked in any case
pub record AreTaken (places : Places) (running : Option Running) (merge : Option merger.Running)
    (outs : List (Option RequestId)) (count : ℕ) (marks : List Bool) : Type 0 where
  pub count_is : length marks ≡ count
  pub jobs : (slot : ℕ) → slot < count → IsReservedBy running merge outs slot → IsMarkedSlot marks slot
  pub exact : ParentsFall places → (slot : ℕ) → slot < count
      → IsMarkedSlot marks slot ↔ (IsNeededAt places running merge slot ⊎ IsReservedBy running merge outs slot)

-- the slots that aren't taken, rising
pub record AreFree (places : Places) (running : Option Running) (merge : Option merger.Running)
    (outs : List (Option RequestId)) (count : ℕ) (slots : List ℕ) : Type 0 where
  pub marks : List Bool
  pub taken : AreTaken places running merge outs count marks
  pub are : slots ≡ free_from 0 marks

pub record FreeSlotsLaw : Type 0 where
  pub each : (places : Places) (running : Option Running) (merge : Option merger.Running)
      (outs : List (Option RequestId)) (count : ℕ) (slots : List ℕ) (place slot : ℕ)
      → AreFree places running merge outs count slots → slice_get slots place ≡ Some slot
      → (slot < count) × (IsReservedBy running merge outs slot → ⊥)
  pub unneeded : (places : Places) (running : Option Running) (merge : Option merger.Running)
      (outs : List (Option RequestId)) (count : ℕ) (slots : List ℕ) (place slot : ℕ)
      → AreFree places running merge outs count slots → ParentsFall places → slice_get slots place ≡ Some slot
      → IsNeededAt places running merge slot → ⊥
  pub rises : (places : Places) (running : Option Running) (merge : Option merger.Running)
      (outs : List (Option RequestId)) (count : ℕ) (slots : List ℕ)
      (place other slot later : ℕ) → AreFree places running merge outs count slots → place < other
      → slice_get slots place ≡ Some slot → slice_get slots other ≡ Some later → slot < later

-- ---- the images that a merge closes

-- an image of the catalog that was there as the merge began, in a slot that no job has
pub record IsLeftOver (places : Places) (running : Option Running) (merge : Option merger.Running)
    (outs : List (Option RequestId)) (one : Retired) : Type 0 where
  pub before : Contains (merger.before_of merge) one.serial
  pub image : Opened
  pub there : place_of places one.serial ≡ Some (Some image)
  pub at : image.slot ≡ one.slot
  pub spared : IsReservedBy running merge outs one.slot → ⊥

-- no two images of the catalog stand in one slot
abbrev pub SlotsDiffer : Places → Type 0
SlotsDiffer places = (a b : ℕ) (i j : Opened) → place_of places a ≡ Some (Some i) → place_of places b ≡ Some (Some j)
    → i.slot ≡ j.slot → a ≡ b

-- The list is rising by slot: each such image that nobody needs is on it, and no other. It has no more than were there
-- as the merge began.
pub record IsListOf (places : Places) (running : Option Running) (merge : Option merger.Running)
    (outs : List (Option RequestId)) (count : ℕ) (list : List Retired) : Type 0 where
  pub each : (one : Retired) → Contains list one → (one.slot < count) × IsLeftOver places running merge outs one
  pub unneeded : ParentsFall places → (one : Retired) → Contains list one → IsNeededAt places running merge one.slot → ⊥
  pub all : ParentsFall places → SlotsDiffer places → (one : Retired) → one.slot < count
      → IsLeftOver places running merge outs one
      → (IsNeededAt places running merge one.slot → ⊥) → Contains list one
  pub rises : (place other : ℕ) (a b : Retired) → place < other → slice_get list place ≡ Some a
      → slice_get list other ≡ Some b → a.slot < b.slot
  pub few : length list ≤ length (merger.before_of merge)

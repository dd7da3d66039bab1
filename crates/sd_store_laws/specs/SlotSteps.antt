-- How the beliefs about slots follow the steps of a store and the calls that are made on slots.
use Rattle.std.specs.List.{AllZip}
use Rattle.std.specs.Prelude.{◌≡◌, ◌≢◌, ◌↔◌, ℕ, true, List, Option, Some, None, Contains, IfSome, slice_get, slice_set}
use Rattle.std.specs.Prelude.{false}
use Rattle.sd_image.specs.Image.{Image, IsImage, is_open}
use Rattle.sd_image.specs.Shows.{IsTip, IsStore}
use Rattle.sd_store_laws.specs.Needed.{IsNeeded}
use Rattle.sd_store_laws.specs.Store.{IsNextDump, IsNextPreDump, IsSoundStore, IsMergedCopy, Store, jobs}
use Rattle.sd_store_laws.specs.Steps.{Adds, Retires, added, cancelled, checkpoint_begun, committed, merging, replaced}
use Rattle.sd_store_laws.specs.Steps.{retired}
use Rattle.sd_store_laws.specs.Steps.{found_store}
use Rattle.sd_store_laws.specs.Beliefs.{AreSlotsOf, Belief, Closed, Kept, Closing, Opening, IsAdded, image_at}

-- a list lacks one image
abbrev pub Lacks : List Image → Image → List Image → Type 0
Lacks old i new = (j : Image) → Contains new j ↔ (Contains old j × (j ≢ i))

-- the slots with one belief changed
abbrev pub with_belief : List Belief → ℕ → Belief → List Belief
with_belief beliefs slot belief = slice_set beliefs slot belief

-- One slot's call: its gate begins to be opened; the image that is being opened is the pending dump; its gate begins to
-- be closed, where nobody needs the image; it is closed, and its image leaves the catalog.
pub record SlotsFollowCalls : Type 0 where
  pub opens : (s : Store) (pending : Option Image) (beliefs : List Belief) (slot : ℕ) (i : Image)
      → AreSlotsOf s pending beliefs
      → slice_get beliefs slot ≡ Some Closed → IsAdded s pending i
      → ((other : ℕ) (j : Image) → image_at beliefs other ≡ Some j → j.header.serial ≢ i.header.serial)
      → AreSlotsOf s pending (with_belief beliefs slot (Opening i))
  pub pends : (s : Store) (beliefs : List Belief) (dump : Image) → AreSlotsOf s None beliefs → IsNextDump s dump
      → AreSlotsOf s (Some dump) beliefs
  pub closes : (s : Store) (pending : Option Image) (beliefs : List Belief) (slot : ℕ) (i : Image)
      → AreSlotsOf s pending beliefs
      → slice_get beliefs slot ≡ Some (Kept i) → (IsNeeded s.catalog (jobs s) i → ⊥)
      → AreSlotsOf s pending (with_belief beliefs slot (Closing i))
  pub closed : (s : Store) (pending : Option Image) (beliefs : List Belief) (slot : ℕ) (i : Image) (new : List Image)
      → IsSoundStore s → AreSlotsOf s pending beliefs
      → slice_get beliefs slot ≡ Some (Closing i) → Lacks s.catalog i new
      → AreSlotsOf (retired s new) pending (with_belief beliefs slot Closed)

-- A slot that is being opened is formatted: its image, that was given up, is in no catalog.
abbrev pub SlotsDrop : Type 0
SlotsDrop =
    (s : Store) (pending : Option Image) (beliefs : List Belief) (slot : ℕ) (i : Image) → AreSlotsOf s pending beliefs
    → slice_get beliefs slot ≡ Some (Opening i)
    → AreSlotsOf s pending (with_belief beliefs slot Closed) × (Contains s.catalog i → ⊥)

-- Closing retires: a catalog without an image is a list, and where the image is one that is being closed, all that is
-- needed is in it.
pub record ClosingRetires : Type 0 where
  pub lacks : (s : Store) (i : Image) → IsSoundStore s → Contains s.catalog i
      → (new : List Image) × Lacks s.catalog i new
  pub retires : (s : Store) (pending : Option Image) (beliefs : List Belief) (slot : ℕ) (i : Image) (new : List Image)
      → AreSlotsOf s pending beliefs
      → slice_get beliefs slot ≡ Some (Closing i) → Lacks s.catalog i new → Retires s new

-- Steps that leave the catalog leave the beliefs.
pub record SlotsFollowJobs : Type 0 where
  pub begins : (s : Store) (tip : Image) (beliefs : List Belief) → IsSoundStore s → s.grows ≡ true → IsTip s.catalog tip
      → AreSlotsOf s None beliefs → AreSlotsOf (checkpoint_begun s tip.header.stands_for) None beliefs
  pub begins_whole : (s : Store) (beliefs : List Belief) → IsSoundStore s → AreSlotsOf s None beliefs
      → AreSlotsOf (checkpoint_begun s 0) None beliefs
  pub cancels : (s : Store) (beliefs : List Belief) → IsSoundStore s → AreSlotsOf s None beliefs
      → AreSlotsOf (cancelled s) None beliefs
  pub merges : (s : Store) (tip : Image) (pending : Option Image) (beliefs : List Belief) → IsSoundStore s
      → IsTip s.catalog tip → s.source ≡ None
      → AreSlotsOf s pending beliefs → AreSlotsOf (merging s tip) pending beliefs

-- The image of a slot that is being opened enters the catalog: a pre-dump, the pending dump, or the image of the
-- running merge.
pub record SlotsFollowImages : Type 0 where
  pub adds : (s : Store) (beliefs : List Belief) (slot : ℕ) (i : Image) (new : List Image) → IsSoundStore s
      → AreSlotsOf s None beliefs
      → slice_get beliefs slot ≡ Some (Opening i) → IsNextPreDump s i → Adds s.catalog i new
      → AreSlotsOf (added s new i.header.stands_for) None (with_belief beliefs slot (Kept i))
  pub commits : (s : Store) (beliefs : List Belief) (slot : ℕ) (i : Image) (new : List Image) → IsSoundStore s
      → AreSlotsOf s (Some i) beliefs
      → slice_get beliefs slot ≡ Some (Opening i) → Adds s.catalog i new
      → AreSlotsOf (committed s new) None (with_belief beliefs slot (Kept i))
  pub replaces : (s : Store) (pending : Option Image) (beliefs : List Belief) (slot : ℕ) (i : Image) (new : List Image)
      → IsSoundStore s → AreSlotsOf s pending beliefs
      → slice_get beliefs slot ≡ Some (Opening i) → IsMergedCopy s.catalog s.source i → Adds s.catalog i new
      → ((j : Image) → Contains beliefs (Opening j) → IsMergedCopy s.catalog s.source j → j ≡ i)
      → IfSome pending (λ dump. i.header.serial ≢ dump.header.serial)
      → AreSlotsOf (replaced s new) pending (with_belief beliefs slot (Kept i))

-- a slot as it is found: closed, or with its image for sure
abbrev pub IsFoundAs : Belief → List ℕ → Type 0
IsFoundAs Closed file = is_open file ≡ false
IsFoundAs (Kept i) file = IsImage file i
IsFoundAs (Closing i) file = ⊥
IsFoundAs (Opening i) file = ⊥

-- The slots of a store that is read without a fault are those of the store as it is opened.
abbrev pub SlotsAreFound : Type 0
SlotsAreFound = (contents : List (List ℕ)) (images : List Image) → IsStore contents images
    → (beliefs : List Belief) × AllZip IsFoundAs beliefs contents × AreSlotsOf (found_store images) None beliefs

-- What is believed of each slot, and what contents that are so show.
use Rattle.std.specs.Prelude.{◌≡◌, ◌↔◌, ◌⊎◌, ℕ, false, List, ◌∷◌, Option, Some, None, Contains, IfSome, option_and_then}
use Rattle.std.specs.Prelude.{slice_get}
use Rattle.std.specs.List.{AllZip}
use Rattle.sd_areas.specs.PlainMemory.{PlainMemory}
use Rattle.sd_image.specs.declared.header.Kind.TheVariants.{PreDump}
use Rattle.sd_image.specs.Image.{Image, IsImage, is_open}
use Rattle.sd_image.specs.Shows.{Shows, ImagesShow}
use Rattle.sd_store_laws.specs.Needed.{IsNeeded}
use Rattle.sd_store_laws.specs.Store.{IsFresh, IsNextDump, IsSoundStore, IsMergedCopy, Store, jobs}

-- a slot is closed, or keeps its image, or is being closed or opened: it is closed or has the image
pub data Belief : Type 0 where
  Closed : Belief
  Kept : Image → Belief
  Closing : Image → Belief
  Opening : Image → Belief

abbrev pub image_in : Belief → Option Image
image_in Closed = None
image_in (Kept i) = Some i
image_in (Closing i) = Some i
image_in (Opening i) = Some i

-- the image that a slot is believed to have
abbrev pub image_at : List Belief → ℕ → Option Image
image_at beliefs slot = option_and_then image_in (slice_get beliefs slot)

-- a fresh pre-dump, also one that was given up; the image of the running merge; or the pending dump
abbrev pub IsAdded : Store → Option Image → Image → Type 0
IsAdded s pending i =
    ((i.header.kind ≡ PreDump) × IsFresh s i) ⊎ (IsMergedCopy s.catalog s.source i ⊎ (pending ≡ Some i))

-- The slots are those of a store: its catalog is what is kept or being closed, it keeps all that is needed, and what is
-- being opened may be added.
pub record AreSlotsOf (s : Store) (pending : Option Image) (beliefs : List Belief) : Type 0 where
  pub catalog : (i : Image) → Contains s.catalog i ↔ (Contains beliefs (Kept i) ⊎ Contains beliefs (Closing i))
  pub needed : (i : Image) → IsNeeded s.catalog (jobs s) i → Contains beliefs (Kept i)
  pub opening : (i : Image) → Contains beliefs (Opening i) → IsAdded s pending i
  pub dump : IfSome pending (IsNextDump s)
  pub serials : (a b : ℕ) (i j : Image) → image_at beliefs a ≡ Some i → image_at beliefs b ≡ Some j
      → i.header.serial ≡ j.header.serial → a ≡ b

-- what a crash may leave of these slots
pub record IsLeft (beliefs : List Belief) (images : List Image) : Type 0 where
  pub kept : (i : Image) → Contains beliefs (Kept i) → Contains images i
  pub within : (i : Image) → Contains images i
      → Contains beliefs (Kept i) ⊎ (Contains beliefs (Closing i) ⊎ Contains beliefs (Opening i))

-- a slot's file is as believed
abbrev pub FitsBelief : Belief → List ℕ → Type 0
FitsBelief Closed file = is_open file ≡ false
FitsBelief (Kept i) file = IsImage file i
FitsBelief (Closing i) file = (is_open file ≡ false) ⊎ IsImage file i
FitsBelief (Opening i) file = (is_open file ≡ false) ⊎ IsImage file i

-- Whatever a crash leaves shows what the store shows, or the pending checkpoint and its memory.
pub record LeftImagesShow : Type 0 where
  pub last : (s : Store) (beliefs : List Belief) (images : List Image) (shown : Option (ℕ × PlainMemory))
      → IsSoundStore s → AreSlotsOf s None beliefs → IsLeft beliefs images → ImagesShow s.catalog shown
      → ImagesShow images shown
  pub pending : (s : Store) (dump : Image) (beliefs : List Belief) (images : List Image)
      (last next : Option (ℕ × PlainMemory))
      → IsSoundStore s → AreSlotsOf s (Some dump) beliefs → IsLeft beliefs images
      → ImagesShow s.catalog last → ImagesShow (dump ∷ s.catalog) next → ImagesShow images last ⊎ ImagesShow images next

-- The same of contents, slot by slot as believed.
pub record ContentsShow : Type 0 where
  pub last : (s : Store) (beliefs : List Belief) (contents : List (List ℕ)) (shown : Option (ℕ × PlainMemory))
      → IsSoundStore s → AreSlotsOf s None beliefs → AllZip FitsBelief beliefs contents → ImagesShow s.catalog shown
      → Shows contents shown
  pub pending : (s : Store) (dump : Image) (beliefs : List Belief) (contents : List (List ℕ))
      (last next : Option (ℕ × PlainMemory))
      → IsSoundStore s → AreSlotsOf s (Some dump) beliefs → AllZip FitsBelief beliefs contents
      → ImagesShow s.catalog last → ImagesShow (dump ∷ s.catalog) next → Shows contents last ⊎ Shows contents next

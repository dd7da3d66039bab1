-- What is needed after a step was needed before, or is the image that the step adds.
use Rattle.std.specs.Prelude.{◌≡◌, ◌⊎◌, true, List, Contains}
use Rattle.sd_image.specs.Image.{Image}
use Rattle.sd_image.specs.Shows.{IsTip}
use Rattle.sd_store_laws.specs.Needed.{IsNeeded}
use Rattle.sd_store_laws.specs.Store.{IsNextDump, IsNextPreDump, IsSoundStore, IsMergedCopy, Store, jobs}
use Rattle.sd_store_laws.specs.Steps.{Adds, Retires, added, cancelled, checkpoint_begun, committed, found_store}
use Rattle.sd_store_laws.specs.Steps.{merging, replaced}
use Rattle.sd_store_laws.specs.Steps.{retired}

-- nobody may close an image of a store
abbrev pub IsNeededIn : Store → Image → Type 0
IsNeededIn s i = IsNeeded s.catalog (jobs s) i

-- No step needs an image that wasn't needed before, but the one that it adds.
pub record NeedsNoMore : Type 0 where
  pub begins : (s : Store) (tip i : Image) → IsSoundStore s → s.grows ≡ true → IsTip s.catalog tip
      → IsNeededIn (checkpoint_begun s tip.header.stands_for) i → IsNeededIn s i
  pub begins_whole : (s : Store) (i : Image) → IsSoundStore s → IsNeededIn (checkpoint_begun s 0) i → IsNeededIn s i
  pub adds : (s : Store) (one i : Image) (new : List Image) → IsSoundStore s → IsNextPreDump s one
      → Adds s.catalog one new
      → IsNeededIn (added s new one.header.stands_for) i → (i ≡ one) ⊎ IsNeededIn s i
  pub commits : (s : Store) (one i : Image) (new : List Image) → IsSoundStore s → IsNextDump s one
      → Adds s.catalog one new
      → IsNeededIn (committed s new) i → (i ≡ one) ⊎ IsNeededIn s i
  pub cancels : (s : Store) (i : Image) → IsSoundStore s → IsNeededIn (cancelled s) i → IsNeededIn s i
  pub merges : (s : Store) (tip i : Image) → IsSoundStore s → IsTip s.catalog tip → IsNeededIn (merging s tip) i
      → IsNeededIn s i
  pub replaces : (s : Store) (one i : Image) (new : List Image) → IsSoundStore s → IsMergedCopy s.catalog s.source one
      → Adds s.catalog one new
      → IsNeededIn (replaced s new) i → (i ≡ one) ⊎ IsNeededIn s i
  pub retires : (s : Store) (i : Image) (new : List Image) → IsSoundStore s → Retires s new
      → IsNeededIn (retired s new) i
      → IsNeededIn s i
  pub opens : (s : Store) (i : Image) → IsNeededIn (found_store s.catalog) i → IsNeededIn s i

-- an image of the catalog that may be closed
pub record IsUnneeded (s : Store) (i : Image) : Type 0 where
  pub member : Contains s.catalog i
  pub unneeded : IsNeededIn s i → ⊥

-- An image of the catalog that may be closed may be closed after each step, until it is.
pub record UnneededStays : Type 0 where
  pub begins : (s : Store) (tip i : Image) → IsSoundStore s → s.grows ≡ true → IsTip s.catalog tip → IsUnneeded s i
      → IsUnneeded (checkpoint_begun s tip.header.stands_for) i
  pub begins_whole : (s : Store) (i : Image) → IsSoundStore s → IsUnneeded s i → IsUnneeded (checkpoint_begun s 0) i
  pub adds : (s : Store) (one i : Image) (new : List Image) → IsSoundStore s → IsNextPreDump s one
      → Adds s.catalog one new
      → IsUnneeded s i → IsUnneeded (added s new one.header.stands_for) i
  pub commits : (s : Store) (one i : Image) (new : List Image) → IsSoundStore s → IsNextDump s one
      → Adds s.catalog one new
      → IsUnneeded s i → IsUnneeded (committed s new) i
  pub cancels : (s : Store) (i : Image) → IsSoundStore s → IsUnneeded s i → IsUnneeded (cancelled s) i
  pub merges : (s : Store) (tip i : Image) → IsSoundStore s → IsTip s.catalog tip → IsUnneeded s i
      → IsUnneeded (merging s tip) i
  pub replaces : (s : Store) (one i : Image) (new : List Image) → IsSoundStore s → IsMergedCopy s.catalog s.source one
      → Adds s.catalog one new
      → IsUnneeded s i → IsUnneeded (replaced s new) i
  pub retires : (s : Store) (i : Image) (new : List Image) → IsSoundStore s → Retires s new → Contains new i
      → IsUnneeded s i
      → IsUnneeded (retired s new) i

-- What is known of an image to come stays through the steps that others make meanwhile.
use Rattle.std.specs.Prelude.{◌≡◌, ◌≢◌, ◌⊎◌, List, Some}
use Rattle.sd_image.specs.Image.{Image}
use Rattle.sd_image.specs.Shows.{IsTip}
use Rattle.sd_store_laws.specs.Needed.{IsNeeded}
use Rattle.sd_store_laws.specs.Reached.{Reaches}
use Rattle.sd_store_laws.specs.Store.{IsFresh, IsNext, IsNextDump, IsSoundStore, IsMergedCopy, Store, jobs}
use Rattle.sd_store_laws.specs.Steps.{Adds, Retires, added, cancelled, checkpoint_begun, committed, merging, replaced}
use Rattle.sd_store_laws.specs.Steps.{retired}

-- Its serial and its number stay new.
pub record FreshStays : Type 0 where
  pub begins : (s : Store) (tip i : Image) → IsTip s.catalog tip → IsFresh s i
      → IsFresh (checkpoint_begun s tip.header.stands_for) i
  pub begins_whole : (s : Store) (i : Image) → IsFresh s i → IsFresh (checkpoint_begun s 0) i
  pub adds : (s : Store) (one i : Image) (new : List Image) → IsNext s one → Adds s.catalog one new
      → one.header.serial ≢ i.header.serial → IsFresh s i → IsFresh (added s new one.header.stands_for) i
  pub commits : (s : Store) (one i : Image) (new : List Image) → IsNext s one → Adds s.catalog one new
      → one.header.serial ≢ i.header.serial → IsFresh s i → IsFresh (committed s new) i
  pub cancels : (s : Store) (i : Image) → IsFresh s i → IsFresh (cancelled s) i
  pub merges : (s : Store) (tip i : Image) → IsTip s.catalog tip → IsFresh s i → IsFresh (merging s tip) i
  pub replaces : (s : Store) (one i : Image) (new : List Image) → IsMergedCopy s.catalog s.source one
      → Adds s.catalog one new
      → one.header.serial ≢ i.header.serial
      → IsFresh s i → IsFresh (replaced s new) i
  pub retires : (s : Store) (i : Image) (new : List Image) → Retires s new → IsFresh s i → IsFresh (retired s new) i

-- A dump of the running checkpoint stays its next image while a merge begins, ends, and closes images.
pub record DumpStays : Type 0 where
  pub merges : (s : Store) (tip i : Image) → IsTip s.catalog tip → IsNextDump s i → IsNextDump (merging s tip) i
  pub replaces : (s : Store) (one i : Image) (new : List Image) → IsSoundStore s → IsMergedCopy s.catalog s.source one
      → Adds s.catalog one new → one.header.serial ≢ i.header.serial
      → IsNextDump s i → IsNextDump (replaced s new) i
  pub retires : (s : Store) (i : Image) (new : List Image) → Retires s new → IsNextDump s i
      → IsNextDump (retired s new) i

-- The merged image goes on repeating its source while images of the running checkpoint enter the catalog, and others
-- are closed.
pub record MergedCopyStays : Type 0 where
  pub adds : (s : Store) (one twin : Image) (new : List Image) → IsSoundStore s → IsNext s one → Adds s.catalog one new
      → one.header.serial ≢ twin.header.serial
      → IsMergedCopy s.catalog s.source twin → IsMergedCopy new s.source twin
  pub retires : (s : Store) (twin : Image) (new : List Image) → IsSoundStore s → Retires s new
      → IsMergedCopy s.catalog s.source twin → IsMergedCopy new s.source twin

-- What the source of a running merge reaches is needed, itself aside.
abbrev pub SourceReachesNeeded : Type 0
SourceReachesNeeded =
    (s : Store) (source i : Image) → IsSoundStore s → s.source ≡ Some source → Reaches s.catalog i source
    → (i ≡ source) ⊎ IsNeeded s.catalog (jobs s) i

-- The steps of a live store.
use Rattle.std.specs.Prelude.{◌≡◌, ◌↔◌, ◌⊎◌, ℕ, ◌<◌, true, false, List, [], ◌∷◌, Some, None, Contains}
use Rattle.sd_image.specs.Image.{Image}
use Rattle.sd_image.specs.Shows.{IsTip}
use Rattle.sd_store_laws.specs.Needed.{IsNeeded}
use Rattle.sd_image.specs.Laws.{SerialsDiffer}
use Rattle.sd_store_laws.specs.Store.{IsNextDump, IsNextPreDump, IsSoundStore, IsMergedCopy, Store, jobs}

-- a list has one image more
abbrev pub Adds : List Image → Image → List Image → Type 0
Adds old i new = (j : Image) → Contains new j ↔ ((j ≡ i) ⊎ Contains old j)

-- some images of a list, all needed ones among them
pub record Retires (s : Store) (new : List Image) : Type 0 where
  pub needed : (i : Image) → IsNeeded s.catalog (jobs s) i → Contains new i
  pub within : (i : Image) → Contains new i → Contains s.catalog i

-- a checkpoint begins, whose first image has this parent
abbrev pub checkpoint_begun : Store → ℕ → Store
checkpoint_begun s number =
    record { catalog = s.catalog; chain = number ∷ []; work = s.work; source = s.source; grows = s.grows }

-- a pre-dump with this number is in the catalog
abbrev pub added : Store → List Image → ℕ → Store
added s new number = record { catalog = new; chain = number ∷ []; work = s.work; source = s.source; grows = s.grows }

-- the dump is in the catalog
abbrev pub committed : Store → List Image → Store
committed s new = record { catalog = new; chain = []; work = s.work; source = s.source; grows = true }

-- a checkpoint is given up: its images stay, and belong to nothing that runs
abbrev pub cancelled : Store → Store
cancelled s = record { catalog = s.catalog; chain = []; work = s.work; source = s.source; grows = false }

-- a merge of this image begins
abbrev pub merging : Store → Image → Store
merging s source = record
    { catalog = s.catalog; chain = s.chain; work = source.header.parent ∷ []; source = Some source; grows = s.grows }

-- the merged image is in the catalog
abbrev pub replaced : Store → List Image → Store
replaced s new = record { catalog = new; chain = s.chain; work = []; source = None; grows = s.grows }

-- images were closed
abbrev pub retired : Store → List Image → Store
retired s new = record { catalog = new; chain = s.chain; work = s.work; source = s.source; grows = s.grows }

-- a store as it is found
abbrev pub found_store : List Image → Store
found_store images = record { catalog = images; chain = []; work = []; source = None; grows = false }

-- Each step keeps a store sound.
pub record StepsKeep : Type 0 where
  pub begins : (s : Store) (tip : Image) → IsSoundStore s → s.grows ≡ true → IsTip s.catalog tip
      → IsSoundStore (checkpoint_begun s tip.header.stands_for)
  pub begins_whole : (s : Store) → IsSoundStore s → IsSoundStore (checkpoint_begun s 0)
  pub adds : (s : Store) (i : Image) (new : List Image) → IsSoundStore s → IsNextPreDump s i → Adds s.catalog i new
      → IsSoundStore (added s new i.header.stands_for)
  pub commits : (s : Store) (i : Image) (new : List Image) → IsSoundStore s → IsNextDump s i → Adds s.catalog i new
      → IsSoundStore (committed s new)
  pub cancels : (s : Store) → IsSoundStore s → IsSoundStore (cancelled s)
  pub merges : (s : Store) (tip : Image) → IsSoundStore s → IsTip s.catalog tip → IsSoundStore (merging s tip)
  pub replaces : (s : Store) (i : Image) (new : List Image) → IsSoundStore s → IsMergedCopy s.catalog s.source i
      → Adds s.catalog i new → IsSoundStore (replaced s new)
  pub retires : (s : Store) (new : List Image) → IsSoundStore s → Retires s new → IsSoundStore (retired s new)
  pub opens : (images : List Image) → SerialsDiffer images
      → ((i : Image) → Contains images i → i.header.parent < i.header.stands_for) → IsSoundStore (found_store images)

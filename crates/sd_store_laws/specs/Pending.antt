-- What the pending dump shows stays, while a merged image enters and images are closed.
use Rattle.std.specs.Prelude.{◌≢◌, ℕ, List, ◌∷◌, Option}
use Rattle.sd_areas.specs.PlainMemory.{PlainMemory}
use Rattle.sd_image.specs.Image.{Image}
use Rattle.sd_image.specs.Shows.{ImagesShow}
use Rattle.sd_store_laws.specs.Store.{IsNextDump, IsSoundStore, IsMergedCopy, Store}
use Rattle.sd_store_laws.specs.Steps.{Adds, Retires}

-- What the store would show with its dump it would show after the step too.
pub record PendingShows : Type 0 where
  pub replaces : (s : Store) (dump one : Image) (new : List Image) (shown : Option (ℕ × PlainMemory)) → IsSoundStore s
      → IsNextDump s dump
      → IsMergedCopy s.catalog s.source one → dump.header.serial ≢ one.header.serial → Adds s.catalog one new
      → ImagesShow (dump ∷ s.catalog) shown → ImagesShow (dump ∷ new) shown
  pub retires : (s : Store) (dump : Image) (new : List Image) (shown : Option (ℕ × PlainMemory)) → IsSoundStore s
      → IsNextDump s dump → Retires s new
      → ImagesShow (dump ∷ s.catalog) shown → ImagesShow (dump ∷ new) shown

-- Where a page comes from, by the event that led there, and what a clean page says of the memory before.
use Rattle.std.specs.Prelude.{◌≡◌, ◌⊎◌, ℕ, true, false, ◌||◌, if◌then◌else◌, List, Option, Some, None}
use Rattle.sd_pagetable.specs.Page.{PageState}
use Rattle.sd_pagetable.specs.Contents.{Contents, page_at, IsSound}
use Rattle.sd_pagetable.specs.Tracking.{MemoryEvent, Step, touches, clears, makes_writable, write_protects}

-- The page was there. It is dirty if the event touches it or it was, unless the event clears it; it is writable if the
-- event makes it so or it was, unless the event write-protects it; and its bytes changed only if the event touches it.
pub record IsChangedBy (event : MemoryEvent) (space number : ℕ) (before after : PageState) : Type 0 where
  pub soft_dirty : after.soft_dirty
      ≡ (if clears space number event then false else touches space number event || before.soft_dirty)
  pub writable : after.writable
      ≡ (if write_protects space number event then false else makes_writable space number event || before.writable)
  pub bytes : touches space number event ≡ false → after.bytes ≡ before.bytes

-- the event made the page, which is soft-dirty and not writable
pub record IsMadeBy (event : MemoryEvent) (space number : ℕ) (after : PageState) : Type 0 where
  pub touched : touches space number event ≡ true
  pub uncleared : clears space number event ≡ false
  pub protected : write_protects space number event ≡ true
  pub soft_dirty : after.soft_dirty ≡ true
  pub writable : after.writable ≡ false

abbrev pub ComesFrom : Contents → MemoryEvent → ℕ → ℕ → PageState → Type 0
ComesFrom old event space number after =
    ((before : PageState) × (page_at old space number ≡ Some before) × IsChangedBy event space number before after)
    ⊎ IsMadeBy event space number after

-- each page after an event was there before, or the event made it
abbrev pub PageLaw : Type 0
PageLaw =
    (old new : Contents) (event : MemoryEvent) (space number : ℕ) (after : PageState) → IsSound old → Step old event new
    → page_at new space number ≡ Some after → ComesFrom old event space number after

abbrev pub clean_bytes : Option PageState → Option (List ℕ)
clean_bytes None = None
clean_bytes (Some page) = if page.soft_dirty then None else Some page.bytes

-- the bytes of a page that is mapped and not soft-dirty
abbrev pub clean_at : Contents → ℕ → ℕ → Option (List ℕ)
clean_at contents space number = clean_bytes (page_at contents space number)

-- a page that is clean after an event other than its own clear was clean before, with the same bytes
abbrev pub CleanLaw : Type 0
CleanLaw =
    (old new : Contents) (event : MemoryEvent) (space number : ℕ) (bytes : List ℕ) → IsSound old → Step old event new
    → clears space number event ≡ false → clean_at new space number ≡ Some bytes
    → clean_at old space number ≡ Some bytes

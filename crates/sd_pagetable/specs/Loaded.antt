-- Memories that a snapshot begins.
use Rattle.std.specs.Prelude.{◌≡◌, ℕ, ◌<◌, Bool, true, false, ◌||◌, ◌==◌, nat_lt, if◌then◌else◌, List, length, Option}
use Rattle.std.specs.Prelude.{Some, None}
use Rattle.std.specs.List.{list_all, list_any}
use Rattle.std.specs.FinMap as finmap
use Rattle.sd_areas.specs.PlainMemory as plain
use Rattle.sd_areas.specs.PlainMemory.{PlainMemory}
use Rattle.sd_areas.specs.Areas.{areas_of}
use Rattle.sd_pagetable.specs.declared.memory_refusal.MemoryRefusal.TheVariants.{NoFrame, Enomem}
use Rattle.sd_pagetable.specs.declared.access_error.AccessError.{AccessError}
use Rattle.sd_pagetable.specs.declared.access_error.AccessError.TheVariants.{Refused}
use Rattle.sd_pagetable.specs.Nested.{total_within}
use Rattle.sd_pagetable.specs.Page.{PageState}
use Rattle.sd_pagetable.specs.Contents.{Contents, page_at, put_page, plain_of, members, classes, is_alone, page_count}
use Rattle.sd_pagetable.specs.RefusalOrder.{prots_in}
use Rattle.sd_pagetable.specs.Tracking.{IsBeginning}

abbrev pub is_zero_page : List ℕ → Bool
is_zero_page bytes = list_all (λ byte. byte == 0) bytes

-- 1 for a page that isn't all zeros
abbrev pub frames_for : plain.Page → ℕ
frames_for page = if is_zero_page page.bytes then 0 else 1

-- how many pages aren't all zeros
abbrev pub nonzero_pages : PlainMemory → ℕ
nonzero_pages memory = total_within frames_for memory

-- a space number outside 1 to 16, or over 1,024 areas in the space
abbrev pub is_over_in_space : ℕ × plain.Space → Bool
is_over_in_space entry = entry.0 == 0 || nat_lt 16 entry.0 || nat_lt 1024 (length (areas_of (prots_in entry.1)))

-- so in some space, or over 65,536 pages in all
abbrev pub is_over_limits : PlainMemory → Bool
is_over_limits memory = list_any is_over_in_space (finmap.entries memory) || nat_lt 65536 (page_count memory)

-- what a memory is refused: each page that isn't all zeros needs a frame, and the limits hold
abbrev pub snapshot_refusal : ℕ → PlainMemory → Option AccessError
snapshot_refusal pool memory =
    if nat_lt pool (nonzero_pages memory) then Some (Refused NoFrame)
    else if is_over_limits memory then Some (Refused Enomem) else None

-- the memory as it begins: a page that isn't all zeros is alone in a class, a page of zeros is in none
pub record IsLoaded (frames : ℕ) (saved : PlainMemory) (contents : Contents) : Type 0 where
  pub pool : contents.pool ≡ frames
  pub memory : plain_of contents ≡ saved
  pub begins : IsBeginning contents
  pub zeros : (space number : ℕ) (page : PageState) → page_at contents space number ≡ Some page
      → is_zero_page page.bytes ≡ true → page.class ≡ None
  pub alone : (space number : ℕ) (page : PageState) → page_at contents space number ≡ Some page
      → is_zero_page page.bytes ≡ false → is_alone contents page ≡ true

-- ---- one page more

-- a page of a snapshot, in a class or in none
abbrev pub loaded_page : plain.Page → Option ℕ → PageState
loaded_page page class =
    record { prot = page.prot; bytes = page.bytes; class = class; writable = false; soft_dirty = true }

-- the class of such a page: none for zeros, else one of the pool that has no page
abbrev pub IsClassFor : Contents → plain.Page → Option ℕ → Type 0
IsClassFor contents page None = is_zero_page page.bytes ≡ true
IsClassFor contents page (Some class) =
    (is_zero_page page.bytes ≡ false) × (members contents class ≡ 0) × (class < contents.pool)

-- a space has one more page of a snapshot
abbrev pub Loads : Contents → ℕ → ℕ → plain.Page → Contents → Type 0
Loads old space number page new =
    (class : Option ℕ) × IsClassFor old page class × (new ≡ put_page old space number (loaded_page page class))

-- a page without a class gets one that has no page, and these bytes
abbrev pub GivesFrame : Contents → ℕ → ℕ → PageState → List ℕ → Contents → Type 0
GivesFrame old space number before bytes new = (class : ℕ) × (members old class ≡ 0) × (class < old.pool)
    × (new ≡ put_page old space number (record before { bytes = bytes; class = Some class }))

-- so far each page is as it begins, and as many classes have a page as pages aren't all zeros
pub record IsBegunMemory (contents : Contents) : Type 0 where
  pub begins : IsBeginning contents
  pub zeros : (space number : ℕ) (page : PageState) → page_at contents space number ≡ Some page
      → is_zero_page page.bytes ≡ true → page.class ≡ None
  pub alone : (space number : ℕ) (page : PageState) → page_at contents space number ≡ Some page
      → is_zero_page page.bytes ≡ false → is_alone contents page ≡ true
  pub used : length (classes contents) ≡ nonzero_pages (plain_of contents)

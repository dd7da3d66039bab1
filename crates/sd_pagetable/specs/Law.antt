-- Laws of memories.
use Rattle.std.specs.Prelude.{◌≡◌, ℕ, zero, suc, ◌+◌, ◌≤◌, false}
use Rattle.std.specs.Option.{option_map}
use Rattle.std.specs.FinMap as finmap
use Rattle.sd_pagetable.specs.Nested.{Table, Nested, inside, is_alive, value_at}
use Rattle.sd_pagetable.specs.Page.{PageState, cleared_page, plain_page}
use Rattle.sd_pagetable.specs.Contents.{Contents, page_at, plain_of, IsSound}
use Rattle.sd_pagetable.specs.Kept.{prots_of}
use Rattle.sd_pagetable.specs.Tracking.{BitsLaw, TryLaw, Step, Cleared, is_page}

-- the tracking law
abbrev pub TrackingLaw : Type 0
TrackingLaw = BitsLaw × TryLaw

-- a page is cleared, and nothing else changed
pub record IsClearedAt (space number : ℕ) (old new : Contents) : Type 0 where
  pub pool : new.pool ≡ old.pool
  pub alive : (other : ℕ) → is_alive new.spaces other ≡ is_alive old.spaces other
  pub here : page_at new space number ≡ option_map cleared_page (page_at old space number)
  pub others : (other page : ℕ) → is_page space number other page ≡ false
      → page_at new other page ≡ page_at old other page

-- a clear changes one page
abbrev pub ClearLaw : Type 0
ClearLaw =
    (old new : Contents) (space number : ℕ) → Step old (Cleared space number) new → IsClearedAt space number old new

-- the plain memory has the same spaces and pages, and the areas have the same permissions
pub record PlainLaw : Type 0 where
  pub alive : (contents : Contents) (space : ℕ) → is_alive (plain_of contents) space ≡ is_alive contents.spaces space
  pub pages : (contents : Contents) (space page : ℕ)
      → value_at (plain_of contents) space page ≡ option_map plain_page (page_at contents space page)
  pub prots : (table : Table PageState) (page : ℕ)
      → finmap.get (prots_of table) page ≡ option_map (λ (found : PageState). found.prot) (finmap.get table page)
  pub count : (table : Table PageState) → finmap.len (prots_of table) ≡ finmap.len table

-- how many pages the spaces below a number have
abbrev pub pages_below : {X : Type 0} → Nested X → ℕ → ℕ
pages_below nested zero = 0
pages_below nested (suc space) = pages_below nested space + finmap.len (inside nested space)

-- the spaces have together at most 65,536 pages
abbrev pub PageLimitLaw : Type 0
PageLimitLaw = (contents : Contents) → IsSound contents → (space : ℕ) → pages_below contents.spaces space ≤ 65536

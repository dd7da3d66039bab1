-- All that a memory holds: the spaces and their pages, over a pool of frames.
use Rattle.std.specs.Prelude.{◌≡◌, ℕ, ◌+◌, ◌≤◌, ◌<◌, ◌^◌, Bool, true, false, ◌==◌, nat_lt, if◌then◌else◌, List, length}
use Rattle.std.specs.Prelude.{filter, Option, Some, refl}
use Rattle.std.specs.Option.{option_map_or}
use Rattle.std.specs.List.{range_with_len}
use Rattle.std.specs.Coded.{Coded, code_by, coded×, coded_ℕ}
use Rattle.std.specs.FinMap as finmap
use Rattle.sd_areas.specs.PlainMemory.{PlainMemory}
use Rattle.sd_pagetable.specs.Nested.{Nested, map_values, value_at, is_alive, put_at, remove_at, total_within}
use Rattle.sd_pagetable.specs.Page.{PageState, page_code, plain_page}

-- how many frames there are, and what each living space has at each page
pub record Contents : Type 0 where
  pub pool : ℕ
  pub spaces : Nested PageState

-- how the contents of a memory are stored as a value
abbrev pub contents_code : Coded Contents
contents_code = code_by (ℕ × Nested PageState) (coded× coded_ℕ (finmap.code coded_ℕ (finmap.code coded_ℕ page_code)))
    (λ c. (c.pool, c.spaces)) (λ t. record { pool = t.0; spaces = t.1 }) (λ _. refl)

-- a mapped page
abbrev pub page_at : Contents → ℕ → ℕ → Option PageState
page_at contents space page = value_at contents.spaces space page

-- a space has this page in place of what it had there
abbrev pub put_page : Contents → ℕ → ℕ → PageState → Contents
put_page contents space number page = record { pool = contents.pool; spaces = put_at contents.spaces space number page }

-- the page is gone
abbrev pub remove_page : Contents → ℕ → ℕ → Contents
remove_page contents space number = record { pool = contents.pool; spaces = remove_at contents.spaces space number }

-- the plain memory: permissions and bytes alone
unfoldable pub plain_of : Contents → PlainMemory
plain_of contents = map_values (map_values plain_page) contents.spaces

-- 1 for a page of the class
abbrev pub share_of : ℕ → PageState → ℕ
share_of class page = option_map_or (λ k. if k == class then 1 else 0) page.class 0

-- how many pages are in a class
abbrev pub members : Contents → ℕ → ℕ
members contents class = total_within (share_of class) contents.spaces

-- the classes that have a page
abbrev pub classes : Contents → List ℕ
classes contents = filter (λ class. nat_lt 0 (members contents class)) (range_with_len 0 contents.pool)

-- the classes are as many as the pool has frames
abbrev pub is_full : Contents → Bool
is_full contents = length (classes contents) == contents.pool

-- the page is in a class, and no other page is in that
abbrev pub is_alone : Contents → PageState → Bool
is_alone contents page = option_map_or (λ class. members contents class == 1) page.class false

-- how many pages are mapped in all spaces
abbrev pub page_count : {X : Type 0} → Nested X → ℕ
page_count spaces = total_within (λ _. 1) spaces

-- The word of a page, after the kernel document `pagemap`: bit 63 where it is in a class, bit 56 where it is alone in
-- it, bit 55 where it is soft-dirty, and no other bit.
abbrev pub word_of_page : Contents → PageState → ℕ
word_of_page contents page = option_map_or (λ _. 2 ^ 63) page.class 0 + (if is_alone contents page then 2 ^ 56 else 0) +
    (if page.soft_dirty then 2 ^ 55 else 0)

-- the word at a page; 0 where it isn't mapped
abbrev pub word_at : Contents → ℕ → ℕ → ℕ
word_at contents space page = option_map_or (word_of_page contents) (page_at contents space page) 0

-- a writable page is soft-dirty, may be written, and is alone in a class
pub record IsWritable (contents : Contents) (page : PageState) : Type 0 where
  pub soft_dirty : page.soft_dirty ≡ true
  pub permitted : page.prot.write ≡ true
  pub alone : is_alone contents page ≡ true

-- each page has 4,096 bytes
abbrev pub AreWhole : Contents → Type 0
AreWhole contents =
    (space number : ℕ) (page : PageState) → page_at contents space number ≡ Some page → length page.bytes ≡ 4096

-- what holds of every memory
pub record IsSound (contents : Contents) : Type 0 where
  pub writable : (space number : ℕ) (page : PageState) → page_at contents space number ≡ Some page
      → page.writable ≡ true
      → IsWritable contents page
  pub classes : (space number : ℕ) (page : PageState) (class : ℕ) → page_at contents space number ≡ Some page
      → page.class ≡ Some class → class < contents.pool
  pub spaces : (space : ℕ) → is_alive contents.spaces space ≡ true → (1 ≤ space) × (space ≤ 16)
  pub numbers : (space number : ℕ) (page : PageState) → page_at contents space number ≡ Some page → number < 2 ^ 35
  pub few : page_count contents.spaces ≤ 65536

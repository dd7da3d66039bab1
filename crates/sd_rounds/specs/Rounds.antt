-- A pass in code, as it is seen, and what its steps do.
use Rattle.std.specs.Prelude.{◌≡◌, ℕ, ◌+◌, ◌*◌, ◌<◌, ◌≤◌, Bool, false, ◌&&◌, ◌==◌, if◌then◌else◌, List, length, ◌++◌}
use Rattle.std.specs.Prelude.{Option, Some, None}
use Rattle.std.specs.List.{list_all}
use Rattle.std.specs.Option.{option_map}
use Rattle.sd_image.specs.declared.table.SpaceTable.{SpaceTable}
use Rattle.sd_pagetable.specs.Page.{PageState, zeros}
use Rattle.sd_pagetable.specs.Contents.{Contents, page_at, plain_of}
use Rattle.sd_pagetable.specs.Order.{IsNextPage}
use Rattle.sd_pagetable.specs.Tracking.{Step, Cleared}
use Rattle.sd_rounds.specs.declared.copied.Copied as copied
use Rattle.sd_rounds.specs.declared.copied.Copied.TheVariants.{More, Zero as ZeroPage, Gone}
use Rattle.sd_rounds.specs.declared.standing.Standing.{Standing}
use Rattle.sd_rounds.specs.declared.standing.Standing.TheVariants.{Free, Copying, Copied}
use Rattle.sd_rounds.specs.declared.visit.Visit.{Visit}
use Rattle.sd_writing.specs.Entries.{Place}
use Rattle.sd_rounds.specs.Pass.{Taking, Pass, visited, sector_of, copied_more, dropped, taken_as_zero}
use Rattle.sd_rounds.specs.Pass.{taken_as_data}
use Rattle.sd_rounds.specs.Rises.{IsRising}
use Rattle.sd_writing.specs.Tables.{AreTables, EndBefore, entries_in, listed}

-- what a buffer has of a page that is being taken
abbrev pub taking_of : List ℕ → Place → Taking
taking_of buffer place = record { place = place; copied = buffer }

abbrev pub pass_of : Bool → List SpaceTable → Option Place → Option Place → List ℕ → Pass
pass_of takes_all tables after taking buffer =
    record {
      takes_all = takes_all;
      entries = entries_in tables;
      after = after;
      taking = option_map (taking_of buffer) taking;
    }

-- a parent number that the entries may name: none where every page is taken
abbrev pub entry_parent : Bool → ℕ
entry_parent takes_all = if takes_all then 0 else 1

-- the entries end before the page that is being taken, or after the cursor
abbrev pub limit : Option Place → Option Place → Place
limit None taking = (0, 0)
limit (Some after) None = (after.0, after.1 + 1)
limit (Some after) (Some taking) = after

-- whole sectors of a page, eight at most
pub record AreSectors (copied : ℕ) : Type 0 where
  pub count : ℕ
  pub are : copied ≡ 512 * count
  pub few : count ≤ 8

-- a whole page, of zeros alone
abbrev pub is_page_of_zeros : List ℕ → Bool
is_page_of_zeros bytes = length bytes == 4096 && list_all (λ byte. byte == 0) bytes

-- what holds of every pass
pub record IsRound (takes_all : Bool) (tables : List SpaceTable) (after taking : Option Place)
    (buffer : List ℕ) : Type 0 where
  pub are : AreTables (entry_parent takes_all) 1 (listed tables)
  pub ends : EndBefore (limit after taking) (listed tables)
  pub rising : IsRising (pass_of takes_all tables after taking buffer)
  pub spaces : (at : Place) → after ≡ Some at → (1 ≤ at.0) × (at.0 ≤ 16)
  pub sectors : (at : Place) → taking ≡ Some at → AreSectors (length buffer)
  pub some : (at : Place) → taking ≡ Some at → is_page_of_zeros buffer ≡ false

-- the next mapped page is tested and cleared
pub record Tests (old : Pass) (before : Contents) (visit : Visit) (new : Pass) (after : Contents) : Type 0 where
  pub next : IsNextPage before.spaces old.after (Some (visit.space, visit.page))
  pub page : PageState
  pub there : page_at before visit.space visit.page ≡ Some page
  pub bit : visit.soft_dirty ≡ page.soft_dirty
  pub cleared : Step before (Cleared visit.space visit.page) after
  pub plain : plain_of after ≡ plain_of before
  pub is : new ≡ visited old (visit.space, visit.page) page.soft_dirty

-- there is no further page
pub record IsOver (old : Pass) (before : Contents) (new : Pass) (after : Contents) : Type 0 where
  pub none : IsNextPage before.spaces old.after None
  pub same : new ≡ old
  pub left : after ≡ before

-- the page that is being taken, and its next sector
pub record IsNextSector (old : Pass) (memory : Contents) (taking : Taking) (page : PageState)
    (sector : ℕ) : Type 0 where
  pub is : old.taking ≡ Some taking
  pub there : page_at memory taking.place.0 taking.place.1 ≡ Some page
  pub whole : length page.bytes ≡ 4096
  pub at_sector : length taking.copied ≡ 512 * sector
  pub within : sector < 8

-- the sector stands after those before it; a whole page isn't all zeros
pub record CopiesMore (old : Pass) (memory : Contents) (new : Pass) : Type 0 where
  pub taking : Taking
  pub page : PageState
  pub sector : ℕ
  pub next : IsNextSector old memory taking page sector
  pub some : is_page_of_zeros (taking.copied ++ sector_of page.bytes sector) ≡ false
  pub is : new ≡ copied_more old taking (sector_of page.bytes sector)

-- with its eighth sector the page is all zeros, and gets its entry
pub record CopiesZeros (old : Pass) (memory : Contents) (new : Pass) : Type 0 where
  pub taking : Taking
  pub page : PageState
  pub next : IsNextSector old memory taking page 7
  pub zeroed : taking.copied ++ sector_of page.bytes 7 ≡ zeros
  pub is : new ≡ taken_as_zero old taking

-- the page is gone
pub record FindsNone (old : Pass) (memory : Contents) (new : Pass) : Type 0 where
  pub taking : Taking
  pub was : old.taking ≡ Some taking
  pub short : length taking.copied < 4096
  pub gone : page_at memory taking.place.0 taking.place.1 ≡ None
  pub is : new ≡ dropped old

abbrev pub Copies : Pass → Contents → copied.Copied → Pass → Type 0
Copies old memory More new = CopiesMore old memory new
Copies old memory ZeroPage new = CopiesZeros old memory new
Copies old memory Gone new = FindsNone old memory new

-- the page that was copied is taken as data
pub record TakesPage (old : Pass) (bytes : List ℕ) (new : Pass) : Type 0 where
  pub taking : Taking
  pub was : old.taking ≡ Some taking
  pub same : bytes ≡ taking.copied
  pub whole : length bytes ≡ 4096
  pub some : is_page_of_zeros bytes ≡ false
  pub is : new ≡ taken_as_data old taking

-- a page is being taken, and not all of it is copied
pub record IsCopying (pass : Pass) : Type 0 where
  pub taking : Taking
  pub is : pass.taking ≡ Some taking
  pub short : length taking.copied < 4096

-- all of the page that is being taken is copied
pub record IsCopied (pass : Pass) : Type 0 where
  pub taking : Taking
  pub is : pass.taking ≡ Some taking
  pub whole : length taking.copied ≡ 4096

abbrev pub PassStands : Pass → Standing → Type 0
PassStands pass Free = pass.taking ≡ None
PassStands pass Copying = IsCopying pass
PassStands pass Copied = IsCopied pass

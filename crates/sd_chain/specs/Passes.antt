-- The pages that a table lists, one after the other: rising by space and page.
use Rattle.std.specs.Prelude.{◌≡◌, ◌⊎◌, ◌==◌, ◌^◌, ◌+◌, ℕ, ◌<◌, ◌≤◌, nat_lt, if◌then◌else◌, List, Option, Some, None}
use Rattle.std.specs.Prelude.{MatchOption, Contains, IsNone, IsTrue}
use Rattle.sd_areas.specs.Pages.{is_within}
use Rattle.sd_image.specs.declared.run.Run.{Run}
use Rattle.sd_image.specs.declared.table.SpaceTable.{SpaceTable}
use Rattle.sd_image.specs.Table.{Listed}
use Rattle.sd_chain.specs.declared.way.Way.{Way}
use Rattle.sd_chain.specs.Catalog.{Opened, Places, place_of}
use Rattle.sd_chain.specs.Ways.{HasPage}

-- a table has a page of a space, in some way
abbrev pub IsListed : List Listed → ℕ × ℕ → Type 0
IsListed spaces page = (w : Way) × HasPage spaces page w

-- a page is before another: in a lower space, or lower in the same
abbrev pub IsBefore : ℕ × ℕ → ℕ × ℕ → Type 0
IsBefore a b = (a.0 < b.0) ⊎ ((a.0 ≡ b.0) × (a.1 < b.1))

-- a page is after a place, where one is given
abbrev pub IsAfterPlace : Option (ℕ × ℕ) → ℕ × ℕ → Type 0
IsAfterPlace after page = MatchOption after (Unit {0}) (λ place. IsBefore place page)

-- the first page that a table lists after a place
pub record IsNextOf (spaces : List Listed) (after : Option (ℕ × ℕ)) (page : ℕ × ℕ) : Type 0 where
  pub listed : IsListed spaces page
  pub behind : IsAfterPlace after page
  pub first : (other : ℕ × ℕ) → IsListed spaces other → IsAfterPlace after other → IsBefore other page → ⊥

-- the first that a table lists after a place, or it lists none there
abbrev pub IsNextOrNone : List Listed → Option (ℕ × ℕ) → Option (ℕ × ℕ) → Type 0
IsNextOrNone spaces after next =
    MatchOption next ((page : ℕ × ℕ) → IsListed spaces page → IsAfterPlace after page → ⊥) (IsNextOf spaces after)

-- the same of the image of a serial; where no image has it there is none
abbrev pub IsNextPageOfImage : Places → ℕ → Option (ℕ × ℕ) → Option (ℕ × ℕ) → Type 0
IsNextPageOfImage places serial after next =
    ((i : Opened) → place_of places serial ≡ Some (Some i) → IsNextOrNone i.spaces after next)
    × (((i : Opened) → place_of places serial ≡ Some (Some i) → ⊥) → IsNone next)

-- Within: a place, and the pages from it on.

-- one of some runs has a page
abbrev pub HasPageInRuns : List Run → ℕ → Type 0
HasPageInRuns runs page = (run : Run) × Contains runs run × IsTrue (is_within run.first run.count page)

-- the least page from this one on that the runs have, or they have none there
abbrev pub IsLeastFrom : List Run → ℕ → Option ℕ → Type 0
IsLeastFrom runs from least = MatchOption least
    ((page : ℕ) → from ≤ page → HasPageInRuns runs page → ⊥)
    (λ found. (from ≤ found) × HasPageInRuns runs found
    × ((page : ℕ) → from ≤ page → HasPageInRuns runs page → found ≤ page))

-- a page is at a place or after it
abbrev pub IsFrom : ℕ × ℕ → ℕ × ℕ → Type 0
IsFrom place page = (place.0 < page.0) ⊎ ((place.0 ≡ page.0) × (place.1 ≤ page.1))

-- one of some spaces has a page
abbrev pub HasSpace : List SpaceTable → ℕ × ℕ → Type 0
HasSpace spaces page = (s : SpaceTable) × Contains spaces s × (page.0 ≡ s.space) × HasPageInRuns s.runs.items page.1

-- the first page from a place on that the spaces have, or they have none there
abbrev pub IsFirstPageFrom : List SpaceTable → ℕ × ℕ → Option (ℕ × ℕ) → Type 0
IsFirstPageFrom spaces place first = MatchOption first
    ((page : ℕ × ℕ) → IsFrom place page → HasSpace spaces page → ⊥)
    (λ found. IsFrom place found × HasSpace spaces found
    × ((page : ℕ × ℕ) → IsFrom place page → HasSpace spaces page → IsBefore page found → ⊥))

-- from which number on the pages of a space are at a place or after it
abbrev pub from_within : ℕ → ℕ × ℕ → ℕ
from_within number place = if nat_lt number place.0 then 2 ^ 35 else (if number == place.0 then place.1 else 0)

-- from which place on pages are after a page, or from which on all are
abbrev pub start_of : Option (ℕ × ℕ) → ℕ × ℕ
start_of None = (0, 0)
start_of (Some page) = (page.0, page.1 + 1)

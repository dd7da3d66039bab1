-- What a write to `clear_refs` does.
use Rattle.std.specs.Prelude.{◌≡◌, ◌≢◌, ◌<◌, ◌≤◌, ◌==◌, ℕ, Bool, not, ◌||◌, ◌∷◌, ◌++◌, [], List, map, codes, bytes_eq}
use Rattle.std.specs.Prelude.{if◌then◌else◌, Option, Some, None, IsSome, is_some, Result, Ok, Err}
use Rattle.std.specs.List.{AllByRecursion, list_any}
use Rattle.std.specs.Option.{option_map}
use Rattle.sd_pagetable.specs.Nested.{is_alive}
use Rattle.sd_pagetable.specs.Page.{cleared_page}
use Rattle.sd_pagetable.specs.Contents.{Contents, page_at}
use Rattle.sd_pagetable.specs.Tracking.{Cleared, Run}
use Rattle.sd_procfs.specs.declared.clear_error.ClearError.{ClearError}
use Rattle.sd_procfs.specs.declared.clear_error.ClearError.TheVariants.{NoSuchSpace, UnsupportedValue}

-- a text that asks for it: `4`, or `4` and a newline
abbrev pub is_clear_text : List ℕ → Bool
is_clear_text text = bytes_eq text (codes "4") || bytes_eq text (codes "4" ++ 10 ∷ [])

-- what a write of a text returns
abbrev pub answer_to : Contents → ℕ → List ℕ → Result (Unit {0}) ClearError
answer_to memory space text =
    if not (is_alive memory.spaces space) then Err NoSuchSpace
    else if is_clear_text text then Ok tt
    else Err UnsupportedValue

-- each mapped page of the space is cleared, and nothing else changed
pub record Clears (space : ℕ) (old new : Contents) : Type 0 where
  pub pool : new.pool ≡ old.pool
  pub alive : (other : ℕ) → is_alive new.spaces other ≡ is_alive old.spaces other
  pub here : (page : ℕ) → page_at new space page ≡ option_map cleared_page (page_at old space page)
  pub others : (other page : ℕ) → other ≢ space → page_at new other page ≡ page_at old other page

-- each page is above all that come after it
abbrev pub AreFalling : List ℕ → Type 0
AreFalling [] = Unit {0}
AreFalling (page ∷ pages) = AllByRecursion (λ other. other < page) pages × AreFalling pages

abbrev pub lists_page : List ℕ → ℕ → Bool
lists_page pages page = list_any (λ other. other == page) pages

-- One clear for each mapped page of the space, and nothing else, leads from one memory to the other. The clears rise by
-- page: a history has the newest first, so the pages fall in it.
pub record IsHistory (space : ℕ) (old new : Contents) (pages : List ℕ) : Type 0 where
  pub falls : AreFalling pages
  pub each : (page : ℕ) → lists_page pages page ≡ is_some (page_at old space page)
  pub run : Run old (map (Cleared space) pages) new

abbrev pub HasHistory : ℕ → Contents → Contents → Type 0
HasHistory space old new = (pages : List ℕ) × IsHistory space old new pages

-- the least mapped page of the space above another, if there is one
abbrev pub IsNextIn : Contents → ℕ → ℕ → Option ℕ → Type 0
IsNextIn memory space page None = (other : ℕ) → IsSome (page_at memory space other) → other ≤ page
IsNextIn memory space page (Some next) = (page < next) × IsSome (page_at memory space next)
    × ((other : ℕ) → IsSome (page_at memory space other) → page < other → next ≤ other)

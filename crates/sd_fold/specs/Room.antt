-- Room for what is to be put into a memory: what was added to it so that each page that is to be put has a place.
use Rattle.std.specs.Prelude.{◌≡◌, ℕ, true, List, [], ◌∷◌, Option, Some, IsSome}
use Rattle.std.specs.Option.{option_map_or}
use Rattle.std.specs.BTreeMap.{BTreeMap, is_at}
use Rattle.std.specs.FinMap as finmap
use Rattle.std.specs.Map.{lookup}
use Rattle.std.specs.Ordering.{nat_cmp}
use Rattle.sd_areas.specs.declared.snapshot_page.SnapshotPage.{SnapshotPage}
use Rattle.sd_areas.specs.PlainMemory.{Space, PlainMemory}
use Rattle.sd_pagetable.specs.Nested.{inside, is_alive}
use Rattle.sd_fold.specs.declared.added.Added.{Added}
use Rattle.sd_fold.specs.declared.added.Added.TheVariants as added
use Rattle.sd_fold.specs.Overlay.{Layers, PageChanges}

-- the memory without a page of a space; where the space isn't alive there is none
abbrev pub without_page : PlainMemory → ℕ → ℕ → PlainMemory
without_page memory space page =
    option_map_or (λ pages. finmap.insert memory space (finmap.remove pages page)) (finmap.get memory space) memory

-- the memory without what was added
abbrev pub without : Added → PlainMemory → PlainMemory
without (added.Space space) memory = finmap.remove memory space
without (added.Page space page) memory = without_page memory space page

-- the memory before all this was added, the newest first
abbrev pub before : List Added → PlainMemory → PlainMemory
before [] memory = memory
before (newest ∷ earlier) memory = before earlier (without newest memory)

-- each page that is to be put is there already
abbrev pub HasPages : PageChanges → Space → Type 0
HasPages changes pages = (page : ℕ) → (found : SnapshotPage) → lookup (is_at (nat_cmp page)) changes ≡ Some (Some found)
    → IsSome (finmap.get pages page)

-- each space that is to be changed is there already, with each page that is to be put
abbrev pub HasRoom : Layers → PlainMemory → Type 0
HasRoom layers memory = (space : ℕ) → (changes : BTreeMap ℕ (Option SnapshotPage))
    → lookup (is_at (nat_cmp space)) layers ≡ Some (Some changes)
    → (is_alive memory space ≡ true) × HasPages changes.entries (inside memory space)

-- What a call over a range is refused, and what it makes of the areas.
use Rattle.std.specs.Prelude.{◌≡◌, ℕ, ◌==◌, nat_lt, false, if◌then◌else◌, Option, Some, None}
use Rattle.std.specs.Ordering.{nat_cmp}
use Rattle.std.specs.BTreeMap.{BTreeMap, get}
use Rattle.sd_areas.specs.Areas.{PageMap}
use Rattle.sd_areas.specs.Pages.{is_invalid, is_outside}
use Rattle.sd_pagetable.specs.declared.access_error.AccessError.{AccessError}
use Rattle.sd_pagetable.specs.declared.access_error.AccessError.TheVariants.{Refused}
use Rattle.sd_pagetable.specs.declared.memory_error.MemoryError.{MemoryError}
use Rattle.sd_pagetable.specs.declared.memory_error.MemoryError.TheVariants.{Denied as DeniedError, OutOfMemory}
use Rattle.sd_pagetable.specs.declared.memory_refusal.MemoryRefusal.TheVariants.{Enomem}
use Rattle.sd_pagetable.specs.Contents.{Contents, page_count}

-- in a living space, whole pages below the last address
abbrev pub IsRangeIn : Type 0 → ℕ → ℕ → Type 0
IsRangeIn alive address bytes = alive × (is_invalid address bytes ≡ false) × (is_outside address bytes ≡ false)

-- a call that failed had to be refused so; out of memory says nothing of the call
abbrev pub Refuses : MemoryError → Option AccessError → Type 0
Refuses (DeniedError denied) due = due ≡ Some denied
Refuses OutOfMemory due = Unit {0}

-- at most 65,536 pages
abbrev pub pages_refusal : Contents → Option AccessError
pages_refusal contents = if nat_lt 65536 (page_count contents.spaces) then Some (Refused Enomem) else None

-- a space has these areas, and the others theirs
abbrev pub HasPut : BTreeMap ℕ PageMap → BTreeMap ℕ PageMap → ℕ → PageMap → Type 0
HasPut old new space own =
    (other : ℕ) → get nat_cmp new other ≡ (if other == space then Some own else get nat_cmp old other)

-- each space has its areas
abbrev pub HasSame : BTreeMap ℕ PageMap → BTreeMap ℕ PageMap → Type 0
HasSame old new = (space : ℕ) → get nat_cmp new space ≡ get nat_cmp old space

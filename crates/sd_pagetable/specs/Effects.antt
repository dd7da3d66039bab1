-- What each call makes of a plain memory, where it is accepted: the effect of a command. All else changes nothing.
use Rattle.std.specs.Prelude.{◌≡◌, ℕ, ◌%◌, ◌≤◌, ◌<◌, true, false, List}
use Rattle.std.specs.Option.{option_map_or}
use Rattle.std.specs.FinMap as finmap
use Rattle.sd_areas.specs.declared.prot.Prot.{Prot}
use Rattle.sd_areas.specs.Pages.{page_of, pages_for}
use Rattle.sd_areas.specs.PlainMemory.{Page, PlainMemory}
use Rattle.sd_pagetable.specs.Nested.{inside, value_at, is_alive, put_at, set_within, remove_within, change_within}
use Rattle.sd_pagetable.specs.Page.{zeros}
use Rattle.sd_pagetable.specs.Access.{stored_at}

-- `mmap`: each page of the rounded range has the permissions and zeros
abbrev pub after_mmap : PlainMemory → ℕ → ℕ → ℕ → Prot → PlainMemory
after_mmap memory space address bytes prot = finmap.insert memory space
    (set_within (inside memory space) (page_of address) (pages_for bytes) (record { prot = prot; bytes = zeros }))

-- `munmap`: the pages of the rounded range are gone
abbrev pub after_munmap : PlainMemory → ℕ → ℕ → ℕ → PlainMemory
after_munmap memory space address bytes =
    finmap.insert memory space (remove_within (inside memory space) (page_of address) (pages_for bytes))

-- `mprotect`: the pages of the rounded range have the permissions, their bytes stay
abbrev pub after_mprotect : PlainMemory → ℕ → ℕ → ℕ → Prot → PlainMemory
after_mprotect memory space address bytes prot = finmap.insert memory space
    (change_within (λ (page : Page). record page { prot = prot }) (inside memory space) (page_of address)
    (pages_for bytes))

-- `fork`: the child is a copy of the parent
abbrev pub after_fork : PlainMemory → ℕ → ℕ → PlainMemory
after_fork memory parent child = finmap.insert memory child (inside memory parent)

-- `exit`: the space is gone
abbrev pub after_exit : PlainMemory → ℕ → PlainMemory
after_exit memory space = finmap.remove memory space

-- an accepted store: the bytes stand at the address
abbrev pub after_store : PlainMemory → ℕ → ℕ → List ℕ → PlainMemory
after_store memory space address bytes =
    option_map_or (λ (page : Page). put_at memory space (page_of address)
    (record page { bytes = stored_at page.bytes (address % 4096) bytes }))
    (value_at memory space (page_of address)) memory

-- the least number that isn't alive
pub record IsLeastFree (memory : PlainMemory) (space : ℕ) : Type 0 where
  pub first : 1 ≤ space
  pub free : is_alive memory space ≡ false
  pub least : (other : ℕ) → 1 ≤ other → other < space → is_alive memory other ≡ true

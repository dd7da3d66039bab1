-- What the calls of POSIX.1-2017 on an address space do: the space afterwards, or why they are refused.
use Rattle.std.specs.Prelude.{◌≡◌, ℕ, ◌%◌, Bool, not, ◌==◌, nat_lt, if◌then◌else◌, ◌++◌, map, length, Result, Ok, Err}
use Rattle.std.specs.Prelude.{is_some, IsTrue, Option}
use Rattle.std.specs.List.{list_any}
use Rattle.std.specs.FinMap as finmap
use Rattle.sd_areas.specs.declared.prot.Prot.{Prot}
use Rattle.sd_areas.specs.declared.errno.Errno.{Errno}
use Rattle.sd_areas.specs.declared.errno.Errno.TheVariants.{Einval, Enomem}
use Rattle.sd_areas.specs.declared.errno.AreaError.{AreaError}
use Rattle.sd_areas.specs.declared.errno.AreaError.TheVariants.{Refused, OutOfMemory}
use Rattle.sd_areas.specs.Pages.{page_of, pages_for, pages_from, is_within, is_invalid, is_outside}
use Rattle.sd_areas.specs.Areas.{PageMap, areas_of}

-- every page of the run has these permissions, and every other page is as before
unfoldable pub set_pages : PageMap → ℕ → ℕ → Prot → PageMap
set_pages pages first count prot =
    finmap.from_entries (map (λ page. (page, prot)) (pages_from first count) ++ finmap.entries pages)

-- no page of the run is there, and every other page is as before
unfoldable pub remove_pages : PageMap → ℕ → ℕ → PageMap
remove_pages pages first count = finmap.retain_keys pages (λ page. not (is_within first count page))

-- each page of the run has these permissions, or isn't mapped where they are none
abbrev pub AllHave : PageMap → ℕ → ℕ → Option Prot → Type 0
AllHave pages first count found = (page : ℕ) → IsTrue (is_within first count page) → finmap.get pages page ≡ found

-- a space may have 1,024 areas
unfoldable pub within_areas : PageMap → Result PageMap Errno
within_areas pages = if nat_lt 1024 (length (areas_of pages)) then Err Enomem else Ok pages

-- `mmap`: the whole pages of the range get these permissions, whatever was there
unfoldable pub map_result : PageMap → ℕ → ℕ → Prot → Result PageMap Errno
map_result pages address bytes prot =
    if is_invalid address bytes then Err Einval
    else if is_outside address bytes then Err Enomem
    else within_areas (set_pages pages (page_of address) (pages_for bytes) prot)

-- `munmap`: each whole page that contains a part of the range goes; a hole has no effect
unfoldable pub unmap_result : PageMap → ℕ → ℕ → Result PageMap Errno
unmap_result pages address bytes =
    if is_invalid address bytes then Err Einval
    else if is_outside address bytes then Err Einval
    else within_areas (remove_pages pages (page_of address) (pages_for bytes))

-- whether a page of the run isn't mapped
unfoldable pub has_hole : PageMap → ℕ → ℕ → Bool
has_hole pages first count = list_any (λ page. not (is_some (finmap.get pages page))) (pages_from first count)

-- `mprotect`: the whole pages of the range, all of them mapped, get these permissions
unfoldable pub protect_result : PageMap → ℕ → ℕ → Prot → Result PageMap Errno
protect_result pages address bytes prot =
    if not (address % 4096 == 0) then Err Einval
    else if bytes == 0 then Ok pages
    else if is_outside address bytes then Err Enomem
    else if has_hole pages (page_of address) (pages_for bytes) then Err Enomem
    else within_areas (set_pages pages (page_of address) (pages_for bytes) prot)

-- a refusal is the one that applied; out of memory says nothing of the call
abbrev pub RefusesInOrder : Result PageMap Errno → AreaError → Type 0
RefusesInOrder due (Refused e) = due ≡ Err e
RefusesInOrder due OutOfMemory = Unit {0}

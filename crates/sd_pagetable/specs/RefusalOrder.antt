-- Which refusal applies, in the order of the cases: none where the call is accepted. Legal replies of calls on memory.
use Rattle.std.specs.Prelude.{◌≡◌, ℕ, ◌+◌, Bool, true, false, not, ◌&&◌, ◌==◌, nat_lt, nat_le, if◌then◌else◌, Option}
use Rattle.std.specs.Prelude.{Some, None, Result, Ok, Err}
use Rattle.std.specs.Option.{option_map_or}
use Rattle.std.specs.FinMap as finmap
use Rattle.sd_areas.specs.declared.prot.Prot.{Prot}
use Rattle.sd_areas.specs.declared.errno.Errno.{Errno}
use Rattle.sd_areas.specs.declared.errno.Errno.TheVariants.{Einval as AreaEinval, Enomem as AreaEnomem}
use Rattle.sd_areas.specs.Pages.{page_of}
use Rattle.sd_areas.specs.PlainMemory.{Page, Space, PlainMemory}
use Rattle.sd_areas.specs.Areas.{PageMap}
use Rattle.sd_areas.specs.Calls.{map_result, unmap_result, protect_result}
use Rattle.sd_pagetable.specs.declared.access.Access.{Access}
use Rattle.sd_pagetable.specs.declared.access.Access.TheVariants.{Write}
use Rattle.sd_pagetable.specs.declared.memory_refusal.MemoryRefusal.TheVariants.{Einval, Enomem, NoSuchSpace}
use Rattle.sd_pagetable.specs.declared.memory_refusal.MemoryRefusal.TheVariants.{TooManySpaces, NoFrame, LastSpace}
use Rattle.sd_pagetable.specs.declared.segv.Segv.TheVariants.{Maperr, Accerr}
use Rattle.sd_pagetable.specs.declared.access_error.AccessError.{AccessError}
use Rattle.sd_pagetable.specs.declared.access_error.AccessError.TheVariants.{Refused, Segv as Stopped}
use Rattle.sd_pagetable.specs.declared.memory_error.MemoryError.{MemoryError}
use Rattle.sd_pagetable.specs.declared.memory_error.MemoryError.TheVariants.{Denied as DeniedError, OutOfMemory}
use Rattle.sd_pagetable.specs.declared.store_outcome.StoreOutcome.{StoreOutcome}
use Rattle.sd_pagetable.specs.declared.store_outcome.StoreOutcome.TheVariants.{Done, NeedsFault}
use Rattle.sd_pagetable.specs.Nested.{Nested, map_values, inside, value_at, is_alive}
use Rattle.sd_pagetable.specs.Page as full
use Rattle.sd_pagetable.specs.Contents.{Contents, page_at, plain_of, is_alone, is_full, page_count}
use Rattle.sd_pagetable.specs.Access.{is_bad_access, allows}
use Rattle.sd_pagetable.specs.Effects.{after_mmap}

-- the first that applies
abbrev pub or_else : Option AccessError → Option AccessError → Option AccessError
or_else None second = second
or_else (Some denied) second = Some denied

-- a call that takes no memory returns the refusal that applies, or none
abbrev pub answer : {T : Type 0} → Option AccessError → T → Result T AccessError
answer None value = Ok value
answer (Some denied) value = Err denied

-- a call that takes memory returns the refusal that applies, or none; out of memory says nothing of the call
abbrev pub Answers : {T : Type 0} → Option AccessError → Result T MemoryError → Type 0
Answers due (Ok value) = due ≡ None
Answers due (Err (DeniedError denied)) = due ≡ Some denied
Answers due (Err OutOfMemory) = Unit {0}

-- the space has to be alive
abbrev pub in_space : {X : Type 0} → Nested X → ℕ → Option AccessError → Option AccessError
in_space memory space due = if is_alive memory space then due else Some (Refused NoSuchSpace)

-- the page has to be mapped with the permission that the access needs
abbrev pub page_refusal : Access → Option Page → Option AccessError
page_refusal need None = Some (Stopped Maperr)
page_refusal need (Some page) = if allows need page.prot then None else Some (Stopped Accerr)

-- a load or a store of so many bytes
abbrev pub access_refusal : PlainMemory → ℕ → ℕ → ℕ → Access → Option AccessError
access_refusal memory space address bytes need = in_space memory space
    (if is_bad_access address bytes then Some (Refused Einval)
    else page_refusal need (value_at memory space (page_of address)))

-- a page that isn't alone in a class needs a frame
abbrev pub needs_frame : Contents → Option full.PageState → Bool
needs_frame contents None = false
needs_frame contents (Some page) = not (is_alone contents page)

-- and then a frame has to be left
abbrev pub frame_refusal : Contents → Option full.PageState → Option AccessError
frame_refusal contents None = None
frame_refusal contents (Some page) =
    if not (is_alone contents page) && is_full contents then Some (Refused NoFrame) else None

-- a fault
abbrev pub fault_refusal : Contents → ℕ → ℕ → Option AccessError
fault_refusal contents space address = or_else
    (in_space (plain_of contents) space (page_refusal Write (value_at (plain_of contents) space (page_of address))))
    (frame_refusal contents (page_at contents space (page_of address)))

-- a fault and store in one
abbrev pub store_refusal : Contents → ℕ → ℕ → ℕ → Option AccessError
store_refusal contents space address bytes = or_else (access_refusal (plain_of contents) space address bytes Write)
    (frame_refusal contents (page_at contents space (page_of address)))

-- a try of a store: a page that isn't writable needs a fault
abbrev pub try_answer : Bool → StoreOutcome
try_answer true = Done
try_answer false = NeedsFault

-- what a store that takes no fault answers: done, that it needs a fault, or why it is refused
abbrev pub try_outcome : Contents → ℕ → ℕ → ℕ → Result StoreOutcome AccessError
try_outcome contents space address bytes = answer (access_refusal (plain_of contents) space address bytes Write)
    (try_answer (option_map_or (λ (page : full.PageState). page.writable)
    (page_at contents space (page_of address)) false))

-- the permissions of a space's pages
abbrev pub prots_in : Space → PageMap
prots_in space = map_values (λ (page : Page). page.prot) space

-- what a call on areas is refused
abbrev pub errno_refusal : Errno → AccessError
errno_refusal AreaEinval = Refused Einval
errno_refusal AreaEnomem = Refused Enomem

abbrev pub area_refusal : Result PageMap Errno → Option AccessError
area_refusal (Ok pages) = None
area_refusal (Err errno) = Some (errno_refusal errno)

-- `mmap`: at most 65,536 pages afterwards
abbrev pub mmap_refusal : PlainMemory → ℕ → ℕ → ℕ → Prot → Option AccessError
mmap_refusal memory space address bytes prot = in_space memory space
    (or_else (area_refusal (map_result (prots_in (inside memory space)) address bytes prot))
    (if nat_lt 65536 (page_count (after_mmap memory space address bytes prot)) then Some (Refused Enomem) else None))

-- why `munmap` is refused, if it is
abbrev pub munmap_refusal : PlainMemory → ℕ → ℕ → ℕ → Option AccessError
munmap_refusal memory space address bytes =
    in_space memory space (area_refusal (unmap_result (prots_in (inside memory space)) address bytes))

-- why `mprotect` is refused, if it is
abbrev pub mprotect_refusal : PlainMemory → ℕ → ℕ → ℕ → Prot → Option AccessError
mprotect_refusal memory space address bytes prot =
    in_space memory space (area_refusal (protect_result (prots_in (inside memory space)) address bytes prot))

-- `fork`: with 16 spaces alive there is no number left, and at most 65,536 pages afterwards
abbrev pub fork_refusal : PlainMemory → ℕ → Option AccessError
fork_refusal memory space = in_space memory space
    (if nat_le 16 (finmap.len memory) then Some (Refused TooManySpaces)
    else if nat_lt 65536 (page_count memory + finmap.len (inside memory space)) then Some (Refused Enomem) else None)

-- `exit`: the only space stays
abbrev pub exit_refusal : PlainMemory → ℕ → Option AccessError
exit_refusal memory space = in_space memory space (if finmap.len memory == 1 then Some (Refused LastSpace) else None)

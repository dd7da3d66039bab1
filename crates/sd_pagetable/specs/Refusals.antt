-- Refusals of calls on memory: their numbers, their names, and how they are printed.
use Rattle.std.specs.Prelude.{ℕ, List, ◌++◌, codes}
use Rattle.sd_areas.specs.Refusals.{numbered_text}
use Rattle.sd_pagetable.specs.declared.memory_refusal.MemoryRefusal.{MemoryRefusal}
use Rattle.sd_pagetable.specs.declared.memory_refusal.MemoryRefusal.TheVariants.{Einval, Enomem, NoSuchSpace}
use Rattle.sd_pagetable.specs.declared.memory_refusal.MemoryRefusal.TheVariants.{TooManySpaces, NoFrame, LastSpace}
use Rattle.sd_pagetable.specs.declared.segv.Segv as segv
use Rattle.sd_pagetable.specs.declared.segv.Segv.TheVariants.{Maperr, Accerr}
use Rattle.sd_pagetable.specs.declared.access_error.AccessError.{AccessError}
use Rattle.sd_pagetable.specs.declared.access_error.AccessError.TheVariants.{Refused, Segv as Stopped}
use Rattle.sd_pagetable.specs.declared.memory_error.MemoryError.{MemoryError}
use Rattle.sd_pagetable.specs.declared.memory_error.MemoryError.TheVariants.{Denied as DeniedError, OutOfMemory}

-- the number of a refusal, as answers have it
abbrev pub memory_refusal_number : MemoryRefusal → ℕ
memory_refusal_number Einval = 1
memory_refusal_number Enomem = 2
memory_refusal_number NoSuchSpace = 3
memory_refusal_number TooManySpaces = 4
memory_refusal_number NoFrame = 5
memory_refusal_number LastSpace = 15

-- the name of a refusal, as answers have it
abbrev pub memory_refusal_name : MemoryRefusal → List ℕ
memory_refusal_name Einval = codes "EINVAL"
memory_refusal_name Enomem = codes "ENOMEM"
memory_refusal_name NoSuchSpace = codes "no-such-space"
memory_refusal_name TooManySpaces = codes "too-many-spaces"
memory_refusal_name NoFrame = codes "no-frame"
memory_refusal_name LastSpace = codes "last-space"

-- the number and the name, separated by a space
abbrev pub memory_refusal_text : MemoryRefusal → List ℕ
memory_refusal_text refusal = numbered_text (memory_refusal_number refusal) (memory_refusal_name refusal)

-- the name of a fault's code, as answers have it
abbrev pub segv_name : segv.Segv → List ℕ
segv_name Maperr = codes "maperr"
segv_name Accerr = codes "accerr"

-- what an access that failed prints
abbrev pub access_error_text : AccessError → List ℕ
access_error_text (Refused refusal) = memory_refusal_text refusal
access_error_text (Stopped stop) = codes "segv " ++ segv_name stop

-- what a call that failed prints
abbrev pub memory_error_text : MemoryError → List ℕ
memory_error_text (DeniedError denied) = access_error_text denied
memory_error_text OutOfMemory = codes "out-of-memory"

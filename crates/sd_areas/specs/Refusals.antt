-- Refusals of POSIX.1-2017 as a number and as text.
use Rattle.std.specs.Prelude.{ℕ, List, ◌++◌, false, codes}
use Rattle.std.specs.Fmt.{digits}
use Rattle.sd_areas.specs.declared.errno.Errno.{Errno}
use Rattle.sd_areas.specs.declared.errno.Errno.TheVariants.{Einval, Enomem}
use Rattle.sd_areas.specs.declared.errno.AreaError.{AreaError}
use Rattle.sd_areas.specs.declared.errno.AreaError.TheVariants.{Refused, OutOfMemory}

-- its number among the refusals of calls on memory
abbrev pub errno_number : Errno → ℕ
errno_number Einval = 1
errno_number Enomem = 2

abbrev pub errno_name : Errno → List ℕ
errno_name Einval = codes "EINVAL"
errno_name Enomem = codes "ENOMEM"

-- a number and a name, separated by a space
abbrev pub numbered_text : ℕ → List ℕ → List ℕ
numbered_text number name = digits 10 false number ++ codes " " ++ name

abbrev pub errno_text : Errno → List ℕ
errno_text errno = numbered_text (errno_number errno) (errno_name errno)

-- what a call that failed prints
abbrev pub area_error_text : AreaError → List ℕ
area_error_text (Refused errno) = errno_text errno
area_error_text OutOfMemory = codes "out-of-memory"

-- What is printed of core files.
use Rattle.std.specs.Prelude.{ℕ, List, [], ◌∷◌, ◌++◌, codes, if◌then◌else◌}
use Rattle.std.specs.Fmt.{decimal}
use Rattle.sd_elf.specs.declared.core_file.ReadError.{ReadError}
use Rattle.sd_elf.specs.declared.core_file.ReadError.TheVariants as read
use Rattle.sd_elf.specs.declared.fault.CoreFault.{CoreFault}
use Rattle.sd_elf.specs.Faults.{has_too_much}

-- a file is no core that a space can have
abbrev pub no_core_text : List ℕ
no_core_text = codes "not a core" ++ 10 ∷ []

-- it is none, or has more than a space can have
abbrev pub core_fault_text : CoreFault → List ℕ
core_fault_text fault = if has_too_much fault then codes "core too large" ++ 10 ∷ [] else no_core_text

-- why a core isn't read; where memory ran out, its fault is printed later
abbrev pub unread_text : ReadError → List ℕ
unread_text (read.Fault fault) = core_fault_text fault
unread_text (read.File error) = codes "cannot read CORE" ++ 10 ∷ []
unread_text read.OutOfMemory = []

-- the files of an export weren't written
abbrev pub unwritten_text : List ℕ
unwritten_text = codes "cannot write OUT" ++ 10 ∷ []

-- how many files of an export that failed have their names, of how many
abbrev pub left_text : ℕ → ℕ → List ℕ
left_text named of =
    decimal named ++ codes " of " ++ decimal of ++ codes " files are of this export"
    ++ codes ", the others are as they were"

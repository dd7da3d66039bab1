-- How a program ends that can't read a core.
use Rattle.std.specs.Prelude.{◌≡◌, ℕ, Bool, true, List, Option}
use Rattle.std.specs.Io.KnownBytes.{Appends}
use Rattle.sd_elf.specs.declared.core_file.ReadError.{ReadError}
use Rattle.sd_elf.specs.declared.core_file.ReadError.TheVariants as read
use Rattle.sd_exit.specs.declared.stop.Stop.{Stop}
use Rattle.sd_exit.specs.declared.stop.Stop.TheVariants as stop
use Rattle.sd_restore.specs.declared.fault.Fault.TheVariants as fault
use Rattle.sd_cores.specs.Texts.{unread_text}

-- a last line is printed; or the writer refused it
abbrev pub IsSaid : List ℕ → Option (List ℕ) → Option (List ℕ) → Bool → Stop → Type 0
IsSaid text before after refused stop.Refused = Appends before after text
IsSaid text before after refused (stop.Writer _) = refused ≡ true
IsSaid text before after refused _ = ⊥

-- why a core isn't read is printed; of memory that ran out, with the last line of the program
abbrev pub EndsUnread : ReadError → Option (List ℕ) → Option (List ℕ) → Bool → Stop → Type 0
EndsUnread read.OutOfMemory before after refused ended = ended ≡ stop.Fault fault.OutOfMemory
EndsUnread error before after refused ended = IsSaid (unread_text error) before after refused ended

-- cores aren't opened: a line says why, or the writer refused it; or memory ran out
abbrev pub IsUnopened : Bool → Stop → Type 0
IsUnopened refused stop.Refused = Unit {0}
IsUnopened refused (stop.Writer _) = refused ≡ true
IsUnopened refused (stop.Fault fault.OutOfMemory) = Unit {0}
IsUnopened refused _ = ⊥

-- How an export ends.
use Rattle.std.specs.Prelude.{◌≡◌, ◌⊎◌, ℕ, Bool, true, List, Option, Some, Result, Ok, Err}
use Rattle.std.specs.Io.KnownBytes.{Appends}
use Rattle.sd_command.specs.declared.refusal.Refusal.TheVariants.{NoSuchSpace}
use Rattle.sd_exit.specs.declared.stop.Stop.{Stop}
use Rattle.sd_exit.specs.declared.stop.Stop.TheVariants as stop
use Rattle.sd_exit.specs.Ending.{Exits, ExitsAs}
use Rattle.sd_program.specs.Texts.{not_there_text}
use Rattle.sd_cores.specs.Texts.{unwritten_text}

-- what is printed before its last line: that the files couldn't be written, or nothing
abbrev pub ExportSays : Result Unit Stop → Bool → Option (List ℕ) → Option (List ℕ) → Type 0
ExportSays (Ok _) refused before now = now ≡ before
ExportSays (Err (stop.Fault fault)) refused before now = now ≡ before
ExportSays (Err (stop.Order why)) refused before now = (why ≡ NoSuchSpace) × (now ≡ before)
ExportSays (Err stop.Refused) refused before now = Appends before now unwritten_text
ExportSays (Err (stop.Writer error)) refused before now = refused ≡ true
ExportSays (Err _) refused before now = ⊥

-- An export to its exit: it came to its end, or this stopped it.
pub record ExportEnds (before after : Option (List ℕ)) (refused : Bool) (status : ℕ) : Type 0 where
  pub ended : Result Unit Stop
  pub written : Bool
  pub printed : Option (List ℕ)
  pub says : ExportSays ended written before printed
  pub kept : written ≡ true → refused ≡ true
  pub exits : ExitsAs ended printed after refused status

-- the checkpoint that was asked for isn't there
abbrev pub ExportLacks : Option ℕ → Option (List ℕ) → Option (List ℕ) → Bool → ℕ → Type 0
ExportLacks asked before after refused status =
    (number : ℕ) × (asked ≡ Some number) × Exits before after refused (not_there_text number) 3 status

-- how an export ends that began
abbrev pub EndsExport : Option ℕ → Option (List ℕ) → Option (List ℕ) → Bool → ℕ → Type 0
EndsExport asked before after refused status =
    ExportEnds before after refused status ⊎ ExportLacks asked before after refused status

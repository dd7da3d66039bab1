-- How a program ends.
use Rattle.std.specs.Prelude.{◌≡◌, ◌⊎◌, ℕ, Bool, true, false, List, [], ◌∷◌, ◌++◌, codes, Option, Some, Result, Ok, Err}
use Rattle.std.specs.Fmt.{decimal}
use Rattle.std.specs.Io.KnownBytes.{Appends}
use Rattle.sd_command.specs.Refusals.{refusal_text}
use Rattle.sd_restore.specs.declared.fault.Fault.{Fault}
use Rattle.sd_restore.specs.declared.fault.Fault.TheVariants.{EmptyChain}
use Rattle.sd_exit.specs.declared.stop.Stop.{Stop}
use Rattle.sd_exit.specs.declared.stop.Stop.TheVariants as stop
use Rattle.sd_exit.specs.Texts.{fault_line}

-- the exit status of a program that printed why it stopped: 3 where nothing was saved, 2 for a script that doesn't fit,
-- and else 1
abbrev pub status_of : Stop → ℕ
status_of (stop.Fault EmptyChain) = 3
status_of (stop.ScriptLine _) = 2
status_of _ = 1

-- what a program prints last where it is stopped: why; but a refusal is answered before, and after a failure of the
-- writer nothing is printed
abbrev pub stop_text : Stop → List ℕ
stop_text (stop.Fault fault) = fault_line fault
stop_text stop.NoFrame = codes "no-frame" ++ 10 ∷ []
stop_text (stop.ScriptLine number) = codes "script line " ++ decimal number ++ 10 ∷ []
stop_text stop.CannotReadScript = codes "cannot read SCRIPT" ++ 10 ∷ []
stop_text stop.CannotOpenFolder = codes "cannot open DIR" ++ 10 ∷ []
stop_text stop.NotEmpty = codes "store not empty" ++ 10 ∷ []
stop_text (stop.Order why) = codes "refused " ++ refusal_text why ++ 10 ∷ []
stop_text stop.Refused = []
stop_text (stop.Writer _) = []

-- the same where it may have come to its end
abbrev pub end_status : Result Unit Stop → ℕ
end_status (Ok _) = 0
end_status (Err why) = status_of why

-- the last line that a program prints, or nothing where all went well
abbrev pub end_text : Result Unit Stop → List ℕ
end_text (Ok _) = []
end_text (Err why) = stop_text why

-- the fault that a program's last line names, where it ends so; what was named before stays where it names none
abbrev pub fault_printed : Option Fault → Result Unit Stop → Option Fault
fault_printed before (Err (stop.Fault fault)) = Some fault
fault_printed before _ = before

-- a last text is written, and the status is the one that comes with it; or the writer refused the text
abbrev pub IsWrittenLast : Option (List ℕ) → Option (List ℕ) → Bool → List ℕ → ℕ → ℕ → Type 0
IsWrittenLast before after refused text wanted status =
    ((status ≡ wanted) × Appends before after text) ⊎ (refused ≡ true)

-- how a program exits after a last text: nothing was ever refused, the writer took that text, and the status is the
-- one that comes with it; or something was refused, and the status is 1
abbrev pub Exits : Option (List ℕ) → Option (List ℕ) → Bool → List ℕ → ℕ → ℕ → Type 0
Exits before after refused text wanted status =
    ((refused ≡ false) × Appends before after text × (status ≡ wanted)) ⊎ ((refused ≡ true) × (status ≡ 1))

-- how it exits after it ended so: with the last line and the status of that
abbrev pub ExitsAs : Result Unit Stop → Option (List ℕ) → Option (List ℕ) → Bool → ℕ → Type 0
ExitsAs ended before after refused status = Exits before after refused (end_text ended) (end_status ended) status

-- what is so where nothing more can be printed
abbrev pub OnWriter : Result Unit Stop → Type 0 → Type 0
OnWriter (Err (stop.Writer _)) P = P
OnWriter _ P = Unit {0}

-- what is so where a program was stopped, and not by its writer
abbrev pub OnFault : Result Unit Stop → Type 0 → Type 0
OnFault (Ok _) P = Unit {0}
OnFault (Err (stop.Writer _)) P = Unit {0}
OnFault (Err _) P = P

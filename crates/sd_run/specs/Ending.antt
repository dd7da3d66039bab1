-- How a run ends.
use Rattle.std.specs.Prelude.{◌⊎◌, ℕ, ◌<◌, List, [], ◌∷◌, ◌++◌, codes}
use Rattle.std.specs.Fmt.{decimal}
use Rattle.sd_restore.specs.declared.fault.Fault.TheVariants as fault
use Rattle.sd_restore.specs.Faulty.{IsBrokenChain, IsDamage}
use Rattle.sd_exit.specs.declared.stop.Stop.{Stop}
use Rattle.sd_exit.specs.declared.stop.Stop.TheVariants as stop
use Rattle.sd_script.specs.declared.script_error.ScriptError.{ScriptError}
use Rattle.sd_script.specs.declared.script_error.ScriptError.TheVariants as error
use Rattle.sd_world.specs.declared.open_fault.OpenFault.{OpenFault}
use Rattle.sd_world.specs.declared.open_fault.OpenFault.TheVariants as opening
use Rattle.sd_world.specs.Opens.{HasNoFrame}

-- how a script that can't be taken stops a program
abbrev pub unfit : ScriptError → Stop
unfit (error.Line number) = stop.ScriptLine number
unfit error.OutOfMemory = stop.Fault fault.OutOfMemory

-- how a store that isn't opened stops a program
abbrev pub unopened : OpenFault → Stop
unopened opening.NoFrame = stop.NoFrame
unopened (opening.Damaged slot reason) = stop.Fault (fault.Damaged slot reason)
unopened opening.Device = stop.Fault fault.Device
unopened opening.OutOfMemory = stop.Fault fault.OutOfMemory

-- Why a run was stopped. Its store wasn't opened: it shows a memory for which a run has too few frames; a slot is
-- damaged, or breaks a chain, and is the one that is named; or a call of the device failed, which had failed so often
-- before and so often now. Or memory was refused, or the writer failed; or a line of the script is blamed.
abbrev pub IsWhyRun : (ℕ → Type 0) → List (List ℕ) → ℕ → ℕ → Stop → Type 0
IsWhyRun blames contents failed now stop.NoFrame = HasNoFrame contents 65536
IsWhyRun blames contents failed now (stop.Fault (fault.Damaged slot reason)) =
    IsDamage contents slot reason ⊎ IsBrokenChain contents slot reason
IsWhyRun blames contents failed now (stop.Fault fault.Device) = failed < now
IsWhyRun blames contents failed now (stop.Fault fault.OutOfMemory) = Unit {0}
IsWhyRun blames contents failed now (stop.Writer _) = Unit {0}
IsWhyRun blames contents failed now (stop.ScriptLine number) = blames number
IsWhyRun blames contents failed now _ = ⊥

-- why an answer isn't printed: there is no room for its text, or it was refused
abbrev pub IsUnprinted : Stop → Type 0
IsUnprinted (stop.Fault fault.OutOfMemory) = Unit {0}
IsUnprinted (stop.Writer _) = Unit {0}
IsUnprinted _ = ⊥

-- why a merge ends early: it was refused, or its reply isn't printed
abbrev pub IsEndOfMerge : Stop → Type 0
IsEndOfMerge stop.Refused = Unit {0}
IsEndOfMerge (stop.Fault fault.OutOfMemory) = Unit {0}
IsEndOfMerge (stop.Writer _) = Unit {0}
IsEndOfMerge _ = ⊥

-- the line that blames a script's line
abbrev pub script_fault_line : ℕ → List ℕ
script_fault_line number = codes "script line " ++ decimal number ++ 10 ∷ []

-- Programs over the files that are found in a folder.
use Rattle.std.specs.Prelude.{◌≡◌, ◌⊎◌, ℕ, Bool, List, [], ◌∷◌, ◌++◌, codes, length, Option, None, Some}
use Rattle.std.specs.Fmt.{decimal}
use Rattle.sd_disk.specs.declared.disk.Disk.{Ghosts}
use Rattle.sd_exit.specs.Ending.{Exits}
use Rattle.sd_exit.specs.declared.stop.Stop.{Stop}
use Rattle.sd_exit.specs.declared.stop.Stop.TheVariants as stop
use Rattle.sd_run.specs.Merging.{IsLeftByMerge, MergesToExit}
use Rattle.sd_run.specs.declared.rule.Rule.{Rule}
use Rattle.sd_script.specs.declared.line.Line.TheVariants.{Reopen}
use Rattle.sd_script.specs.Script.{first_unfit_line, requests_of}
use Rattle.sd_jobs.specs.Running.{RunsScript}

-- All of these bytes are a script, which was run over a disk with these files. The exit status is that of the run, or
-- 1.
pub record RunsBytes {D : Type 0} (g : Ghosts D) (rule : Rule) (restores : Bool) (bytes : List ℕ)
    (files : List (List ℕ)) (before after : Option (List ℕ)) (refused : Bool) (status : ℕ) : Type 0 where
  pub fits : first_unfit_line bytes ≡ None
  pub old : D
  pub new : D
  pub ended : ℕ
  pub opened : g.contents old ≡ files
  pub runs : RunsScript g rule restores (Reopen ∷ requests_of bytes) old new before after refused ended
  pub exits : (status ≡ ended) ⊎ (status ≡ 1)

-- The newest chain of a disk with these files was merged. The exit status is that of the merge, or 1.
pub record MergesFiles {D : Type 0} (g : Ghosts D) (files : List (List ℕ)) (before after : Option (List ℕ))
    (refused : Bool) (status : ℕ) : Type 0 where
  pub old : D
  pub new : D
  pub ended : ℕ
  pub opened : g.contents old ≡ files
  pub merges : MergesToExit g old new before after refused ended
  pub left : IsLeftByMerge g old new
  pub exits : (status ≡ ended) ⊎ (status ≡ 1)

-- the line of a script that fits the language
abbrev pub fit_text : List ℕ → List ℕ
fit_text bytes = codes "ok " ++ decimal (length (requests_of bytes)) ++ codes " requests" ++ 10 ∷ []

-- all of these bytes are a script, and its line is printed, to the exit
abbrev pub ChecksBytes : List ℕ → Option (List ℕ) → Option (List ℕ) → Bool → ℕ → Type 0
ChecksBytes bytes before after refused status =
    (first_unfit_line bytes ≡ None) × Exits before after refused (fit_text bytes) 0 status

-- a line of a script is blamed only where it is the first that doesn't fit
abbrev pub BlamesFirst : List ℕ → Stop → Type 0
BlamesFirst bytes (stop.ScriptLine number) = first_unfit_line bytes ≡ Some number
BlamesFirst bytes _ = Unit {0}

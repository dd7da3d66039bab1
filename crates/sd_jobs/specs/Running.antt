-- A script that was run to the exit.
use Rattle.std.specs.Prelude.{◌≡◌, ◌≢◌, ℕ, Bool, true, List, Option, Result, Ok, Err, IfErr, OnOk}
use Rattle.sd_disk.specs.declared.disk.Disk.{Ghosts}
use Rattle.sd_disk.specs.Reads.{OnlyReads}
use Rattle.sd_exit.specs.declared.stop.Stop.{Stop}
use Rattle.sd_exit.specs.declared.stop.Stop.TheVariants as stop
use Rattle.sd_exit.specs.Ending.{ExitsAs, OnWriter}
use Rattle.sd_readers.specs.declared.steady.Reader.TheVariants.{Restore}
use Rattle.sd_readers.specs.Reading.{ReaderEnds}
use Rattle.sd_run.specs.Ending.{IsWhyRun}
use Rattle.sd_run.specs.Promise.{PromiseAnyway}
use Rattle.sd_run.specs.Strict.{IsStrictRun, Passes}
use Rattle.sd_run.specs.Whole.{IsWholeRun}
use Rattle.sd_run.specs.declared.rule.Rule.{Rule}
use Rattle.sd_script.specs.declared.line.Line.{Line}

-- what comes after the answers of a run: where it came to its end, the memory that the store then shows, if that was
-- asked for; and else why it was stopped, if it was
abbrev pub Then : {D : Type 0} → Ghosts D → Bool → Result Unit Stop → D → D → Option (List ℕ) → Option (List ℕ) → Bool
    → ℕ → Type 0
Then g true (Ok _) ran new answered after refused status =
    OnlyReads g ran new
    × ReaderEnds Restore (g.is_honest new) (g.contents ran) (g.failed ran) (g.failed new) answered after refused status
Then g _ ended ran new answered after refused status =
    (new ≡ ran) × ExitsAs ended answered after refused status

-- A script was run, strictly or not, with `--restore` or without, to the exit.
pub record RunsScript {D : Type 0} (g : Ghosts D) (rule : Rule) (restores : Bool) (lines : List Line) (old new : D)
    (before after : Option (List ℕ)) (refused : Bool) (status : ℕ) : Type 0 where
  pub ended : Result Unit Stop
  pub ran : D
  pub answered : Option (List ℕ)
  pub whole : OnOk ended ((run : IsWholeRun g lines old ran before answered) × Passes rule run.answers.answers)
  pub strict : ended ≡ Err stop.Refused → IsStrictRun g rule lines old ran before answered
  pub so_far : g.is_honest ran → PromiseAnyway g lines old ran before answered
  pub why : g.is_honest ran → ended ≢ Err stop.Refused
      → IfErr ended (IsWhyRun (λ _. ⊥) (g.contents old) (g.failed old) (g.failed ran))
  pub writer : OnWriter ended (refused ≡ true)
  pub behind : Then g restores ended ran new answered after refused status

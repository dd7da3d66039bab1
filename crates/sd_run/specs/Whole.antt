-- A whole run of a script, from the disk that it began with to the one that it left.
use Rattle.std.specs.Prelude.{◌≡◌, ◌⊎◌, ℕ, List, [], ◌∷◌, ◌++◌, Option, None}
use Rattle.std.specs.List.{flat_map}
use Rattle.std.specs.Io.KnownBytes.{Appends}
use Rattle.sd_disk.specs.Crash.{Within}
use Rattle.sd_disk.specs.Reads.{OnlyReads}
use Rattle.sd_disk.specs.declared.disk.Disk.{Ghosts}
use Rattle.sd_image.specs.Shows.{Shows}
use Rattle.sd_journal.specs.Marked.{IsTracked}
use Rattle.sd_crash_safety.specs.Shown.{ShowsAllowed}
use Rattle.sd_crash_safety.specs.View.{history_of}
use Rattle.sd_core.specs.Flags.{numbers_from}
use Rattle.sd_core.specs.Starts.{shown_base}
use Rattle.sd_script.specs.declared.answer.Answer.{Answer}
use Rattle.sd_script.specs.declared.line.Line.{Line}
use Rattle.sd_script.specs.Texts.{answer_line}
use Rattle.sd_world.specs.Opens.{bare_memory}
use Rattle.sd_world.specs.View.{WorldView}
use Rattle.sd_world.specs.Goes.{GoesOn}
use Rattle.sd_run.specs.Lines.{AnswersLines}

-- the lines of these answers but the last are printed after what was, and a beginning of that one's
pub record BreaksOff (answers : List Answer) (before now : Option (List ℕ)) : Type 0 where
  pub told : List Answer
  pub last : Answer
  pub are : answers ≡ told ++ last ∷ []
  pub front : List ℕ
  pub rest : List ℕ
  pub line : front ++ rest ≡ answer_line last
  pub printed : Appends before now (flat_map answer_line told ++ front)

-- ---- from one state of a world to another

-- these lines were answered, and their answers printed after what was
pub record PrintsLines {D : Type 0} (g : Ghosts D) (first : WorldView D) (lines : List Line) (last : WorldView D)
    (before now : Option (List ℕ)) : Type 0 where
  pub answers : List Answer
  pub answered : AnswersLines g first lines answers last
  pub printed : Appends before now (flat_map answer_line answers)

-- the first of these lines were answered, up to any place
pub record AnswersSome {D : Type 0} (g : Ghosts D) (first : WorldView D) (lines : List Line)
    (last : WorldView D) : Type 0 where
  pub done : List Line
  pub rest : List Line
  pub parts : lines ≡ done ++ rest
  pub answers : List Answer
  pub answered : AnswersLines g first done answers last

-- the lines of these answers are printed after what was; or the last one was broken off
abbrev pub ArePrintedAfter : List Answer → Option (List ℕ) → Option (List ℕ) → Type 0
ArePrintedAfter answers before now = Appends before now (flat_map answer_line answers) ⊎ BreaksOff answers before now

-- the first of these lines were answered, and their answers printed, up to any place
pub record PrintsSome {D : Type 0} (g : Ghosts D) (first : WorldView D) (lines : List Line) (last : WorldView D)
    (before now : Option (List ℕ)) : Type 0 where
  pub some : AnswersSome g first lines last
  pub told : ArePrintedAfter some.answers before now

-- ---- from one disk to another

-- A run's first state: the disk was only read, no entry stands in the journal, no checkpoint runs, the first numbers
-- come after the base's, and the contents, as every outcome of a crash then, show what the run starts from, or nothing
-- saved.
pub record RunIsOpened {D : Type 0} (g : Ghosts D) (old : D) (opened : WorldView D) : Type 0 where
  pub reads : OnlyReads g old opened.disk
  pub journal : opened.core.items ≡ []
  pub idle : opened.core.dumper.running ≡ None
  pub numbers : opened.core.numbers ≡ numbers_from opened.core.base.number
  pub shows : g.is_honest opened.disk
      → Shows (g.contents old) (shown_base opened.core.base.number opened.core.base.memory)
  pub everywhere : g.is_honest opened.disk
      → Within (g.may_leave opened.disk) (λ c. Shows c (shown_base opened.core.base.number opened.core.base.memory))
  -- where nothing was saved it starts from space 1 alone, without areas
  pub bare : opened.core.base.number ≡ None → opened.core.base.memory ≡ bare_memory
  -- as many frames as pages can be mapped
  pub frames : opened.core.memory.pool ≡ 65536

-- A run from the disk that was opened to the one that is left. Whatever moment of it a crash comes, it leaves what the
-- journal of that moment allows; at its end so does every outcome of a crash, and so do the contents. The memory at its
-- end is the one that the journal makes.
pub record IsRun {D : Type 0} (g : Ghosts D) (old : D) (opened last : WorldView D) (new : D) : Type 0 where
  pub opening : RunIsOpened g old opened
  pub goes_on : GoesOn g opened last
  pub disk : new ≡ last.disk
  pub at_end : g.is_honest last.disk
      → Within (g.may_leave last.disk) (ShowsAllowed last.core.base (history_of last.core))
  pub contents : g.is_honest last.disk → ShowsAllowed last.core.base (history_of last.core) (g.contents last.disk)
  pub tracked : IsTracked last.core.base last.core.items last.core.memory

-- all of these lines were answered, and their answers printed
pub record IsWholeRun {D : Type 0} (g : Ghosts D) (lines : List Line) (old new : D)
    (before now : Option (List ℕ)) : Type 0 where
  pub opened : WorldView D
  pub last : WorldView D
  pub run : IsRun g old opened last new
  pub answers : PrintsLines g opened lines last before now

-- the first of these lines were answered, up to any place
pub record IsPartOfRun {D : Type 0} (g : Ghosts D) (lines : List Line) (old new : D) : Type 0 where
  pub opened : WorldView D
  pub last : WorldView D
  pub run : IsRun g old opened last new
  pub answers : AnswersSome g opened lines last

-- what becomes of a disk: it was only read, or the first of these lines were answered over it
pub data IsLeftByRun {D : Type 0} (g : Ghosts D) (lines : List Line) (old new : D) : Type 0 where
  only_read : OnlyReads g old new → IsLeftByRun g lines old new
  run : IsPartOfRun g lines old new → IsLeftByRun g lines old new

-- What becomes of a disk: it was only read, or its store was opened, and events were made over it. Whatever moment of
-- it a crash comes, it leaves what the journal of that moment allows.
pub data IsLeftByEvents {D : Type 0} (g : Ghosts D) (old new : D) : Type 0 where
  only_read : OnlyReads g old new → IsLeftByEvents g old new
  run : (opened last : WorldView D) → IsRun g old opened last new → IsLeftByEvents g old new

-- a disk with these files is left so
pub record LeavesFiles {D : Type 0} (g : Ghosts D) (files : List (List ℕ)) : Type 0 where
  pub old : D
  pub new : D
  pub opened : g.contents old ≡ files
  pub left : IsLeftByEvents g old new

-- The merge of a store's newest chain, as a run of its own.
use Rattle.std.specs.Prelude.{◌≡◌, ◌≢◌, ℕ, Bool, true, false, List, Option, Result, Err, IfErr, OnOk}
use Rattle.std.specs.Io.KnownBytes.{Appends}
use Rattle.sd_command.specs.declared.reply.Reply.{Reply}
use Rattle.sd_command.specs.declared.reply.Reply.TheVariants as reply
use Rattle.sd_disk.specs.Reads.{OnlyReads}
use Rattle.sd_disk.specs.declared.disk.Disk.{Ghosts}
use Rattle.sd_exit.specs.declared.stop.Stop.{Stop}
use Rattle.sd_exit.specs.declared.stop.Stop.TheVariants as stop
use Rattle.sd_exit.specs.Ending.{ExitsAs, OnWriter}
use Rattle.sd_gate.specs.declared.worker.Worker.TheVariants.{Merger, Opener}
use Rattle.sd_script.specs.Texts.{reply_line}
use Rattle.sd_world.specs.declared.event.Event.TheVariants.{Merge, Reopen}
use Rattle.sd_world.specs.View.{WorldView}
use Rattle.sd_run.specs.Ending.{IsWhyRun}
use Rattle.sd_world.specs.Jobs.{IsJob}
use Rattle.sd_run.specs.Whole.{IsRun}

-- the reply of a merge that came to its end
abbrev pub is_merged : Reply → Bool
is_merged (reply.Merged serial) = true
is_merged _ = false

-- the reply of a store that was opened again
abbrev pub is_reopened : Reply → Bool
is_reopened (reply.Reopened checkpoint) = true
is_reopened _ = false

-- A store is opened again, and then its newest chain is merged. The answer is the last reply: that of the merge, or
-- that of a reopening that failed.
pub data MergesTip {D : Type 0} (g : Ghosts D) (first : WorldView D) (answer : Reply)
    (last : WorldView D) : Type 0 where
  closed : is_reopened answer ≡ false → IsJob g Reopen Opener first answer last → MergesTip g first answer last
  merged : (reopened : Reply) (mid : WorldView D) → is_reopened reopened ≡ true
      → IsJob g Reopen Opener first reopened mid
      → IsJob g Merge Merger mid answer last → MergesTip g first answer last

-- A merge from the disk that was opened to the one that is left. Whatever moment of it a crash comes, it leaves what
-- the journal of that moment allows.
pub record IsMergeRun {D : Type 0} (g : Ghosts D) (old : D) (answer : Reply) (new : D) : Type 0 where
  pub opened : WorldView D
  pub last : WorldView D
  pub run : IsRun g old opened last new
  pub merges : MergesTip g opened answer last

-- a merge ended with this reply, and its line was printed after what was
pub record PrintsMerge {D : Type 0} (g : Ghosts D) (old : D) (answer : Reply) (new : D)
    (before now : Option (List ℕ)) : Type 0 where
  pub run : IsMergeRun g old answer new
  pub printed : Appends before now (reply_line answer)

-- a merge came to its end, and its reply was printed
abbrev pub IsWholeMerge : {D : Type 0} → Ghosts D → D → D → Option (List ℕ) → Option (List ℕ) → Type 0
IsWholeMerge g old new before now = (serial : ℕ) × PrintsMerge g old (reply.Merged serial) new before now

-- a merge didn't come to its end, and its last reply was printed
abbrev pub IsRefusedMerge : {D : Type 0} → Ghosts D → D → D → Option (List ℕ) → Option (List ℕ) → Type 0
IsRefusedMerge g old new before now =
    (answer : Reply) × (is_merged answer ≡ false) × PrintsMerge g old answer new before now

-- what becomes of a disk: it was only read, or its store was opened again and merged, up to the last reply
pub data IsLeftByMerge {D : Type 0} (g : Ghosts D) (old new : D) : Type 0 where
  only_read : OnlyReads g old new → IsLeftByMerge g old new
  run : (answer : Reply) → IsMergeRun g old answer new → IsLeftByMerge g old new

-- A merge up to the exit: after the reply, or in its place, stands why it was stopped, if it was, and the status comes
-- with that.
pub record MergesToExit {D : Type 0} (g : Ghosts D) (old new : D) (before after : Option (List ℕ)) (refused : Bool)
    (status : ℕ) : Type 0 where
  pub ended : Result Unit Stop
  pub printed : Option (List ℕ)
  pub merged : OnOk ended (IsWholeMerge g old new before printed)
  pub told : ended ≡ Err stop.Refused → IsRefusedMerge g old new before printed
  -- where it isn't refused, what stopped it is what is printed
  pub why : g.is_honest new → ended ≢ Err stop.Refused
      → IfErr ended (IsWhyRun (λ _. ⊥) (g.contents old) (g.failed old) (g.failed new))
  pub writer : OnWriter ended (refused ≡ true)
  pub exits : ExitsAs ended printed after refused status

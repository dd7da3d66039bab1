-- A world that can be worked on: it was opened over a store, and opened that again, to its end.
use Rattle.std.specs.Prelude.{◌≡◌, ℕ, [], None}
use Rattle.sd_command.specs.declared.refusal.Refusal.{Refusal}
use Rattle.sd_command.specs.declared.reply.Reply.{Reply}
use Rattle.sd_command.specs.declared.reply.Reply.TheVariants as reply
use Rattle.sd_disk.specs.Crash.{Within}
use Rattle.sd_disk.specs.Reads.{OnlyReads}
use Rattle.sd_disk.specs.declared.disk.Disk.{Ghosts}
use Rattle.sd_gate.specs.declared.worker.Worker.TheVariants.{Opener}
use Rattle.sd_image.specs.Shows.{Shows}
use Rattle.sd_crash_safety.specs.declared.standing.Standing.TheVariants.{NotOpen}
use Rattle.sd_core.specs.Flags.{numbers_from}
use Rattle.sd_core.specs.Starts.{shown_base}
use Rattle.sd_world.specs.declared.event.Event.TheVariants.{Reopen}
use Rattle.sd_world.specs.declared.open_fault.OpenFault.{OpenFault}
use Rattle.sd_world.specs.declared.open_fault.OpenFault.TheVariants.{NoFrame}
use Rattle.sd_world.specs.declared.start_error.StartFault.{StartFault}
use Rattle.sd_world.specs.declared.start_error.StartFault.TheVariants as fault
use Rattle.sd_world.specs.Goes.{GoesOn}
use Rattle.sd_world.specs.Jobs.{IsJob}
use Rattle.sd_world.specs.Opens.{HasNoFrame, IsFaultOf, bare_memory}
use Rattle.sd_world.specs.View.{WorldView, nothing_kept}

-- A world after its opening over a disk: no entry stands in the journal, the store isn't open yet, nothing is out, no
-- checkpoint runs, and the first numbers come after the base's. The disk was only read. Its contents show what the run
-- starts from, or nothing saved, and so does every outcome of a crash.
pub record IsOpened {D : Type 0} (g : Ghosts D) (disk : D) (frames : ℕ) (opened : WorldView D) : Type 0 where
  pub journal : opened.core.items ≡ []
  pub standing : opened.core.standing ≡ NotOpen
  pub kept : opened.kept ≡ nothing_kept
  pub idle : opened.core.dumper.running ≡ None
  pub numbers : opened.core.numbers ≡ numbers_from opened.core.base.number
  pub reads : OnlyReads g disk opened.disk
  pub shows : g.is_honest opened.disk
      → Shows (g.contents disk) (shown_base opened.core.base.number opened.core.base.memory)
  pub everywhere : g.is_honest opened.disk
      → Within (g.may_leave opened.disk) (λ c. Shows c (shown_base opened.core.base.number opened.core.base.memory))
  pub bare : opened.core.base.number ≡ None → opened.core.base.memory ≡ bare_memory
  pub pool : opened.core.memory.pool ≡ frames

-- A world was opened over a disk, and its store opened again with this last reply.
pub record IsReopened {D : Type 0} (g : Ghosts D) (disk : D) (frames : ℕ) (answer : Reply)
    (world : WorldView D) : Type 0 where
  pub opened : WorldView D
  pub opening : IsOpened g disk frames opened
  pub job : IsJob g Reopen Opener opened answer world
  pub goes_on : GoesOn g opened world

-- a store isn't opened: its disk was only read, and this is its fault
pub record IsUnopened {D : Type 0} (g : Ghosts D) (disk : D) (frames : ℕ) (why : OpenFault) (left : D) : Type 0 where
  pub reads : OnlyReads g disk left
  pub fault : g.is_honest left → IsFaultOf (g.contents disk) (g.failed disk) (g.failed left) why
  pub no_frame : g.is_honest left → why ≡ NoFrame → HasNoFrame (g.contents disk) frames

-- the store was opened, and its opening again was refused: this is what the disk is then
pub record IsRefused {D : Type 0} (g : Ghosts D) (disk : D) (frames : ℕ) (why : Refusal) (left : D) : Type 0 where
  pub world : WorldView D
  pub reopened : IsReopened g disk frames (reply.Refused why) world
  pub closed : left ≡ world.disk

-- why a run doesn't start, and what the disk is then
abbrev pub IsUnstarted : {D : Type 0} → Ghosts D → D → ℕ → StartFault → D → Type 0
IsUnstarted g disk frames (fault.Unopened why) left = IsUnopened g disk frames why left
IsUnstarted g disk frames (fault.Refused why) left = IsRefused g disk frames why left

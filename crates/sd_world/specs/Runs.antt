-- Whole runs, and what they show.
use Rattle.std.specs.Prelude.{◌≡◌, ◌≢◌, ℕ, List, [], ◌∷◌, ◌++◌, Some, None}
use Rattle.sd_areas.specs.PlainMemory.{PlainMemory}
use Rattle.sd_command.specs.declared.reply.Reply.{Reply}
use Rattle.sd_command.specs.declared.reply.Reply.TheVariants as reply
use Rattle.sd_disk.specs.Crash.{Within}
use Rattle.sd_disk.specs.Spans.{LeavesOnly}
use Rattle.sd_disk.specs.declared.disk.Disk.{Ghosts}
use Rattle.sd_image.specs.Shows.{Shows}
use Rattle.sd_journal.specs.History.{Base, History, at_freeze}
use Rattle.sd_journal.specs.Marked.{IsTracked}
use Rattle.sd_crash_safety.specs.Shown.{ShowsAllowed}
use Rattle.sd_crash_safety.specs.View.{history_of}
use Rattle.sd_world.specs.declared.event.Event.{Event}
use Rattle.sd_world.specs.declared.event.Event.TheVariants.{Trim}
use Rattle.sd_world.specs.Acked.{DoesAck}
use Rattle.sd_world.specs.Adds.{AddsToJournal}
use Rattle.sd_world.specs.Closing.{ClosesAfter, EndsAfter}
use Rattle.sd_world.specs.Copied.{DoesCopy}
use Rattle.sd_world.specs.KeptCheckpoint.{KeepsCheckpoint}
use Rattle.sd_world.specs.Little.{DoesLittle}
use Rattle.sd_world.specs.Merges.{DoesMerge, KeepsMerged}
use Rattle.sd_world.specs.Refused.{GoesOnUnless}
use Rattle.sd_world.specs.Stays.{FilesStay}
use Rattle.sd_world.specs.Steps.{Does}
use Rattle.sd_world.specs.View.{WorldView}

-- a checkpoint, with the memory at its freeze
pub record ShowsFreeze (base : Base) (history : History) (n : ℕ) (contents : List (List ℕ)) : Type 0 where
  pub memory : PlainMemory
  pub freeze : at_freeze base history n ≡ Some memory
  pub shows : Shows contents (Some (n, memory))

-- the checkpoint that was acknowledged or found, or nothing saved; other replies say nothing of it
abbrev pub ShowsReply : Reply → Base → History → List (List ℕ) → Type 0
ShowsReply (reply.Acked n) base history contents = ShowsFreeze base history n contents
ShowsReply (reply.Reopened (Some n)) base history contents = ShowsFreeze base history n contents
ShowsReply (reply.Reopened None) base history contents = Shows contents None
ShowsReply _ base history contents = Unit {0}

-- what an event does to a world, what it adds to the journal or takes from it, what it makes of a checkpoint, and what
-- a crash leaves
pub record IsStep {D : Type 0} (g : Ghosts D) (event : Event) (old : WorldView D) (answer : Reply)
    (new : WorldView D) : Type 0 where
  pub does : Does g event old answer new
  pub adds : AddsToJournal event answer old.core new.core
  pub little : DoesLittle event old answer new
  -- the checkpoint that runs after it is the one that ran before, or the one that it began
  pub checkpoint : KeepsCheckpoint event answer old.core new.core
  -- after an acknowledgement the checkpoint's images stand in their slots, where the disk is honest
  pub acked : g.is_honest new.disk → DoesAck g event old answer new
  -- what a merge's event makes of the disk, where that is honest, and that the merged image's file stays while images
  -- are closed
  pub merges : g.is_honest new.disk → DoesMerge g event old answer new
  pub keeps : KeepsMerged g old new
  pub closes : g.is_honest new.disk → ClosesAfter g old new
  pub ends : g.is_honest new.disk → EndsAfter g old answer new
  -- that a merged image is read from what stands on the disk, and which images are to be closed after it
  pub copies : g.is_honest new.disk → DoesCopy g event old new
  -- that a file stays as it is until a job has its slot
  pub files : g.is_honest new.disk → FilesStay g old new
  -- for what alone the next step of a job is refused
  pub jobs : g.is_honest new.disk → GoesOnUnless event old answer
  -- and the disk was honest before it
  pub honest : g.is_honest new.disk → g.is_honest old.disk
  -- what the run goes on from stays, but by a trim; the journal is legal, and the memory is the one that it makes
  pub base : event ≢ Trim → new.core.base ≡ old.core.base
  pub tracked : IsTracked new.core.base new.core.items new.core.memory
  -- a crash within it leaves what the journal allowed before it; a crash after it what the journal allows then, and
  -- after an acknowledgement or a reopening that checkpoint, as the contents do
  pub any_moment : g.is_honest new.disk
      → LeavesOnly g old.disk new.disk (ShowsAllowed old.core.base (history_of old.core))
  pub at_end : g.is_honest new.disk → Within (g.may_leave new.disk) (ShowsAllowed new.core.base (history_of new.core))
  pub shows : g.is_honest new.disk
      → Within (g.may_leave new.disk) (ShowsReply answer new.core.base (history_of new.core))
  pub reads : g.is_honest new.disk
      → ShowsReply answer new.core.base (history_of new.core) (g.contents new.disk)

-- the world goes from the first state to the last, event by event, each answered by its reply
abbrev pub Runs : {D : Type 0} → Ghosts D → WorldView D → List Event → List Reply → WorldView D → Type 0
Runs g first [] [] last = last ≡ first
Runs {D} g first (event ∷ events) (answer ∷ answers) last =
    (next : WorldView D) × IsStep g event first answer next × Runs g next events answers last
Runs g first [] (answer ∷ answers) last = ⊥
Runs g first (event ∷ events) [] last = ⊥

-- Contents show what the journal allowed with which a run began, or with which one of its steps ended: that run makes
-- these events, which are answered so.
pub record ShowsAllowedWithin {D : Type 0} (g : Ghosts D) (first : WorldView D) (events : List Event)
    (answers : List Reply) (last : WorldView D) (contents : List (List ℕ)) : Type 0 where
  pub before : List Event
  pub told : List Reply
  pub mid : WorldView D
  pub there : Runs g first before told mid
  pub after : List Event
  pub more : List Reply
  pub goes_on : Runs g mid after more last
  pub events_are : events ≡ before ++ after
  pub answers_are : answers ≡ told ++ more
  pub shows : ShowsAllowed mid.core.base (history_of mid.core) contents

-- At which points of a run a world may stand.
use Rattle.std.specs.Prelude.{◌≡◌, ℕ, ◌<◌, ◌≤◌, [], ◌++◌, Some, None}
use Rattle.sd_command.specs.declared.reply.Reply.{Reply}
use Rattle.sd_disk.specs.declared.disk.Disk.{Ghosts}
use Rattle.sd_journal.specs.History.{Base, History, at_freeze}
use Rattle.sd_journal.specs.Legal.{IsLegal}
use Rattle.sd_journal.specs.RunLaws.{StartsAs}
use Rattle.sd_journal.specs.Trimming.{IsEnded, base_after}
use Rattle.sd_crash_safety.specs.Calls.{running_number}
use Rattle.sd_crash_safety.specs.View.{history_of}
use Rattle.sd_core.specs.Flags.{numbers_from}
use Rattle.sd_core.specs.Starts.{shown_base}
use Rattle.sd_world.specs.declared.event.Event.{Event}
use Rattle.sd_world.specs.Opens.{bare_memory}
use Rattle.sd_world.specs.Promise.{Moves, Point}
use Rattle.sd_world.specs.Runs.{IsStep}
use Rattle.sd_world.specs.View.{WorldView}

-- trims folded these entries into a base, which is this one now
pub data Folds (first : Base) : History → Base → Type 0 where
  none : (gone : History) (now : Base) → gone ≡ [] → now ≡ first → Folds first gone now
  more : (gone : History) (now mid : Base) (earlier front : History) (n : ℕ) → Folds first earlier mid
      → IsLegal mid front → IsEnded n front
      → gone ≡ front ++ earlier → now ≡ base_after mid n front → Folds first gone now

-- A world stands at a point: its run started from a base that is what the store showed; the entries that its journal
-- has no more were folded into the base that it has now; and the checkpoint that runs is the one that was begun last.
-- No freeze has a number above those that were begun.
pub record StandsAt {D : Type 0} (world : WorldView D) (point : Point D) : Type 0 where
  pub disk : point.disk ≡ world.disk
  pub base : Base
  pub starts : StartsAs base point.start
  pub gone : History
  pub folds : Folds base gone world.core.base
  pub entries : point.entries ≡ history_of world.core ++ gone
  pub legal : IsLegal world.core.base (history_of world.core)
  pub begun : (n : ℕ) → running_number world.core.dumper.running ≡ Some n → point.begun ≡ Some n
  pub used : (n : ℕ) → world.core.numbers.begun < n → at_freeze base point.entries n ≡ None
  pub last : (n : ℕ) → point.begun ≡ Some n → n ≤ world.core.numbers.begun
  pub counted : world.core.numbers.begun ≤ world.core.numbers.checkpoint

-- the first point of a run, as its world is opened
abbrev pub first_point : {D : Type 0} → WorldView D → Point D
first_point opened = record {
  disk = opened.disk;
  start = shown_base opened.core.base.number opened.core.base.memory;
  entries = [];
  begun = None;
}

-- A world that was opened, and has made no event, stands there.
abbrev pub FirstStands : Type 0 → Type 0
FirstStands D = (opened : WorldView D) → opened.core.items ≡ [] → opened.core.dumper.running ≡ None
    → opened.core.numbers ≡ numbers_from opened.core.base.number
    → (opened.core.base.number ≡ None → opened.core.base.memory ≡ bare_memory) → StandsAt opened (first_point opened)

-- From each point at which a world stands a step goes to one at which it stands then, where the disk is honest.
abbrev pub PointsFollow : {D : Type 0} → Ghosts D → Type 0
PointsFollow {D} g = (event : Event) (old : WorldView D) (answer : Reply) (new : WorldView D)
    → IsStep g event old answer new → g.is_honest new.disk
    → (first : Point D) → StandsAt old first → (last : Point D) × StandsAt new last × Moves g event answer first last

-- The points of a run, by the base that its journal goes on from. What is proved of them is then the result of one fold.
use Rattle.std.specs.Prelude.{◌≡◌, ◌⊎◌, ℕ, ◌<◌, ◌≤◌, ◌∷◌, ◌++◌, Option, Some, None}
use Rattle.sd_command.specs.declared.command.Command.{Command}
use Rattle.sd_command.specs.declared.refusal.Refusal.TheVariants.{JournalFull, OutOfMemory}
use Rattle.sd_command.specs.declared.reply.Reply.{Reply}
use Rattle.sd_command.specs.declared.reply.Reply.TheVariants as reply
use Rattle.sd_disk.specs.Crash.{Within}
use Rattle.sd_disk.specs.Spans.{LeavesOnly}
use Rattle.sd_disk.specs.declared.disk.Disk.{Ghosts}
use Rattle.sd_gate.specs.declared.worker.Worker.{Worker}
use Rattle.sd_gate.specs.declared.worker.Worker.TheVariants.{Dumper, Opener}
use Rattle.sd_journal.specs.declared.entry.Entry.TheVariants.{Applied, Freeze, Acked, Cancelled, Reopened}
use Rattle.sd_journal.specs.History.{Base, History, at_freeze}
use Rattle.sd_journal.specs.Legal.{IsAbove, IsLegal}
use Rattle.sd_crash_safety.specs.Calls.{running_number}
use Rattle.sd_crash_safety.specs.Shown.{ShowsAllowed}
use Rattle.sd_crash_safety.specs.View.{history_of}
use Rattle.sd_world.specs.declared.event.Event.{Event}
use Rattle.sd_world.specs.declared.event.Event.TheVariants.{Command as CommandEvent, Work, TakeUp, HandInAt, Cancel}
use Rattle.sd_world.specs.Points.{Folds}
use Rattle.sd_world.specs.Promise.{begun_after}
use Rattle.sd_world.specs.Runs.{IsStep, ShowsReply}
use Rattle.sd_world.specs.View.{WorldView}

-- the disk; the base that the run started from, and all entries of its journal since; and the number of the checkpoint
-- that was begun last
pub record BasePoint (D : Type 0) : Type 0 where
  pub disk : D
  pub base : Base
  pub entries : History
  pub begun : Option ℕ

-- a command adds its entry, with its reply, unless it is refused as journal-full or as out of memory
abbrev pub AddsCommand : ℕ → Command → Reply → History → History → Type 0
AddsCommand seat command (reply.Refused JournalFull) old new = new ≡ old
AddsCommand seat command (reply.Refused OutOfMemory) old new = new ≡ old
AddsCommand seat command answer old new = new ≡ Applied seat command answer ∷ old

-- the memory is frozen for the checkpoint that was begun last, whose number is above all
pub record FreezesAtBase (base : Base) (begun : Option ℕ) (old new : History) : Type 0 where
  pub number : ℕ
  pub last : begun ≡ Some number
  pub above : IsAbove base old number
  pub entry : new ≡ Freeze number ∷ old

-- A worker's step, or an outcome that it hands in, adds what its reply says: the dumper's an acknowledgement, the
-- opener's a reopening. One of the dumper that only worked may have frozen the memory.
abbrev pub AddsByReply : Worker → Reply → Base → Option ℕ → History → History → Type 0
AddsByReply worker (reply.Acked n) base begun old new = (worker ≡ Dumper) × (new ≡ Acked n ∷ old)
AddsByReply worker (reply.Reopened m) base begun old new = (worker ≡ Opener) × (new ≡ Reopened m ∷ old)
AddsByReply worker reply.Worked base begun old new = (new ≡ old) ⊎ ((worker ≡ Dumper) × FreezesAtBase base begun old new)
AddsByReply worker _ base begun old new = new ≡ old

-- the order to cancel adds the number that it answers; where it is refused it adds nothing
abbrev pub AddsCancelled : Reply → History → History → Type 0
AddsCancelled (reply.Cancelled n) old new = new ≡ Cancelled n ∷ old
AddsCancelled _ old new = new ≡ old

-- other orders and device calls add nothing; here a trim takes nothing away
abbrev pub AddsEntry : Event → Reply → Base → Option ℕ → History → History → Type 0
AddsEntry (CommandEvent seat command) answer base begun old new = AddsCommand seat command answer old new
AddsEntry (Work worker) answer base begun old new = AddsByReply worker answer base begun old new
AddsEntry (TakeUp worker) answer base begun old new = AddsByReply worker answer base begun old new
AddsEntry (HandInAt worker place) answer base begun old new = AddsByReply worker answer base begun old new
AddsEntry Cancel answer base begun old new = AddsCancelled answer old new
AddsEntry _ answer base begun old new = new ≡ old

-- from one such point to the next
pub record Enters {D : Type 0} (g : Ghosts D) (event : Event) (answer : Reply) (old new : BasePoint D) : Type 0 where
  -- the run started from where it started, and the journal gets what the event and its reply add
  pub base : new.base ≡ old.base
  pub entries : AddsEntry event answer old.base old.begun old.entries new.entries
  pub begun : new.begun ≡ begun_after event answer old.begun
  -- a crash at any moment between the two points leaves what the journal allowed at the first
  pub any_moment : LeavesOnly g old.disk new.disk (ShowsAllowed old.base old.entries)
  -- a crash at the second leaves what the journal allows then
  pub at_end : Within (g.may_leave new.disk) (ShowsAllowed new.base new.entries)
  -- and after `acked n` or `reopened n` that checkpoint, with the memory at its freeze
  pub told : Within (g.may_leave new.disk) (ShowsReply answer new.base new.entries)

-- A world stands at such a point: the entries that its journal has no more were folded into its base, and the checkpoint
-- that runs is the one that was begun last. No freeze has a number above those that were begun.
pub record StandsAtBase {D : Type 0} (world : WorldView D) (point : BasePoint D) : Type 0 where
  pub disk : point.disk ≡ world.disk
  pub gone : History
  pub folds : Folds point.base gone world.core.base
  pub entries : point.entries ≡ history_of world.core ++ gone
  pub legal : IsLegal world.core.base (history_of world.core)
  pub begun : (n : ℕ) → running_number world.core.dumper.running ≡ Some n → point.begun ≡ Some n
  pub used : (n : ℕ) → world.core.numbers.begun < n → at_freeze point.base point.entries n ≡ None
  pub last : (n : ℕ) → point.begun ≡ Some n → n ≤ world.core.numbers.begun
  pub counted : world.core.numbers.begun ≤ world.core.numbers.checkpoint

-- from each such point at which a world stands a step goes to one at which it stands then
abbrev pub EntersFollow : {D : Type 0} → Ghosts D → Type 0
EntersFollow {D} g = (event : Event) (old : WorldView D) (answer : Reply) (new : WorldView D)
    → IsStep g event old answer new → g.is_honest new.disk
    → (first : BasePoint D) → StandsAtBase old first
    → (last : BasePoint D) × StandsAtBase new last × Enters g event answer first last

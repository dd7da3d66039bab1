-- What is promised of a run, of its events, their replies, its journal and its disk alone.
use Rattle.std.specs.Prelude.{◌≡◌, ◌⊎◌, ℕ, ◌<◌, List, [], ◌∷◌, ◌++◌, Option, Some, None}
use Rattle.std.specs.List.{AllByRecursion}
use Rattle.std.specs.Option.{option_map}
use Rattle.sd_areas.specs.PlainMemory.{PlainMemory}
use Rattle.sd_command.specs.declared.refusal.Refusal.{Refusal}
use Rattle.sd_command.specs.declared.refusal.Refusal.TheVariants.{JournalFull, OutOfMemory}
use Rattle.sd_command.specs.declared.reply.Reply.{Reply}
use Rattle.sd_command.specs.declared.reply.Reply.TheVariants as reply
use Rattle.sd_disk.specs.Crash.{Within}
use Rattle.sd_disk.specs.Spans.{LeavesOnly}
use Rattle.sd_disk.specs.declared.disk.Disk.{Ghosts}
use Rattle.sd_gate.specs.declared.worker.Worker.{Worker}
use Rattle.sd_gate.specs.declared.worker.Worker.TheVariants.{Dumper, Opener}
use Rattle.sd_image.specs.Shows.{Shows}
use Rattle.sd_journal.specs.declared.entry.Entry.{Entry}
use Rattle.sd_journal.specs.declared.entry.Entry.TheVariants.{Applied, Freeze, Acked, Cancelled, Reopened}
use Rattle.sd_journal.specs.Allowed.{Shown}
use Rattle.sd_journal.specs.Tell.{MayShow, Told, tell}
use Rattle.sd_world.specs.declared.event.Event.{Event}
use Rattle.sd_world.specs.declared.event.Event.TheVariants.{Command as CommandEvent, Begin, Work, TakeUp, HandInAt}
use Rattle.sd_world.specs.declared.event.Event.TheVariants.{Cancel}

-- A point of a run: the disk; what the store showed as the run started, and all entries of its journal since, the
-- newest first; and the number of the checkpoint that was begun last, until it is cancelled.
pub record Point (D : Type 0) : Type 0 where
  pub disk : D
  pub start : Shown
  pub entries : List Entry
  pub begun : Option ℕ

-- ---- what an event with its reply adds to the journal

-- The entry of an event and its reply, if they have one. A command that is refused as journal-full or as out of memory
-- leaves none. Here a trim takes nothing away.
abbrev pub entry_made_by : Event → Reply → List Entry
entry_made_by (CommandEvent seat command) (reply.Refused JournalFull) = []
entry_made_by (CommandEvent seat command) (reply.Refused OutOfMemory) = []
entry_made_by (CommandEvent seat command) answer = Applied seat command answer ∷ []
entry_made_by event (reply.Acked n) = Acked n ∷ []
entry_made_by event (reply.Cancelled n) = Cancelled n ∷ []
entry_made_by event (reply.Reopened m) = Reopened m ∷ []
entry_made_by event answer = []

-- a worker's step, or an outcome that it hands in
abbrev pub IsOf : Worker → Event → Type 0
IsOf worker event = (event ≡ Work worker) ⊎ ((event ≡ TakeUp worker) ⊎ ((place : ℕ) × (event ≡ HandInAt worker place)))

-- each freeze of the run had a lesser number, and so had the checkpoint that it started from
abbrev pub IsNextNumber : ℕ → Shown → List Entry → Type 0
IsNextNumber n start entries = AllByRecursion (λ entry. (m : ℕ) → entry ≡ Freeze m → m < n) entries
    × ((m : ℕ) (memory : PlainMemory) → start ≡ Some (m, memory) → m < n)

-- The freeze, which no reply names: a step of the dumper that only worked may have frozen the memory, for the
-- checkpoint that was begun last, under the next number.
pub record Freezes (event : Event) (answer : Reply) (begun : Option ℕ) (start : Shown)
    (old new : List Entry) : Type 0 where
  pub dumper : IsOf Dumper event
  pub worked : answer ≡ reply.Worked
  pub number : ℕ
  pub last : begun ≡ Some number
  pub next : IsNextNumber number start old
  pub entry : new ≡ Freeze number ∷ old

-- the number of the checkpoint that was begun last, until it is cancelled
abbrev pub begun_after : Event → Reply → Option ℕ → Option ℕ
begun_after (Begin rounds) (reply.Begun n) before = Some n
begun_after Cancel (reply.Cancelled n) before = None
begun_after _ answer before = before

-- ---- what contents show

-- contents show what is allowed
pub record ShowsWhatRunAllows (told : Told) (contents : List (List ℕ)) : Type 0 where
  pub shown : Shown
  pub allowed : MayShow told shown
  pub shows : Shows contents shown

-- after `acked` and `reopened` they show the last checkpoint, which has that number, or that nothing was saved
abbrev pub ShowsAnswer : Reply → Told → List (List ℕ) → Type 0
ShowsAnswer (reply.Acked n) told contents =
    (option_map (λ (pair : ℕ × PlainMemory). pair.0) told.last ≡ Some n) × Shows contents told.last
ShowsAnswer (reply.Reopened m) told contents =
    (option_map (λ (pair : ℕ × PlainMemory). pair.0) told.last ≡ m) × Shows contents told.last
ShowsAnswer _ told contents = Unit {0}

-- ---- one event, and a list of them

-- From one point of a run to the next, by one event and its reply.
pub record Moves {D : Type 0} (g : Ghosts D) (event : Event) (answer : Reply) (old new : Point D) : Type 0 where
  -- the run started from where it started, and the journal gets the entry of the event and its reply, or the freeze
  pub start : new.start ≡ old.start
  pub entries : (new.entries ≡ entry_made_by event answer ++ old.entries)
      ⊎ Freezes event answer old.begun old.start old.entries new.entries
  -- an order to begin is answered by the next number, or refused; no other event is answered `begun`
  pub begins : (rounds : ℕ) → event ≡ Begin rounds
      → ((n : ℕ) × (answer ≡ reply.Begun n) × IsNextNumber n old.start old.entries)
      ⊎ ((why : Refusal) × (answer ≡ reply.Refused why))
  pub begun_by : (n : ℕ) → answer ≡ reply.Begun n → (rounds : ℕ) × (event ≡ Begin rounds)
  -- only the dumper acknowledges: the checkpoint that was begun last, and is being written
  pub acks : (n : ℕ) → answer ≡ reply.Acked n → IsOf Dumper event × (old.begun ≡ Some n)
      × ((memory : PlainMemory) × ((tell old.start old.entries).pending ≡ Some (n, memory)))
  -- only the opener reopens, and only the order to cancel cancels
  pub reopens : (m : Option ℕ) → answer ≡ reply.Reopened m → IsOf Opener event
  pub cancels : (n : ℕ) → answer ≡ reply.Cancelled n → event ≡ Cancel
  pub begun : new.begun ≡ begun_after event answer old.begun
  -- a crash at any moment between the two points leaves what the journal allowed at the first
  pub any_moment : LeavesOnly g old.disk new.disk (ShowsWhatRunAllows (tell old.start old.entries))
  -- a crash at the second leaves what the journal allows then
  pub at_end : Within (g.may_leave new.disk) (ShowsWhatRunAllows (tell new.start new.entries))
  -- and after `acked` or `reopened` the last checkpoint, or nothing saved
  pub told : Within (g.may_leave new.disk) (ShowsAnswer answer (tell new.start new.entries))

-- the events, one after the other, each with its reply
abbrev pub Goes : {D : Type 0} → Ghosts D → Point D → List Event → List Reply → Point D → Type 0
Goes g first [] [] last = last ≡ first
Goes {D} g first (event ∷ events) (answer ∷ answers) last =
    (next : Point D) × Moves g event answer first next × Goes g next events answers last
Goes g first [] (answer ∷ answers) last = ⊥
Goes g first (event ∷ events) [] last = ⊥

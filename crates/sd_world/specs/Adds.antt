-- What an event and its reply add to the journal.
use Rattle.std.specs.Prelude.{◌≡◌, ◌⊎◌, ℕ, ◌∷◌, ◌++◌, length}
use Rattle.sd_command.specs.declared.command.Command.{Command}
use Rattle.sd_command.specs.declared.refusal.Refusal.{Refusal}
use Rattle.sd_command.specs.declared.reply.Reply.{Reply}
use Rattle.sd_command.specs.declared.reply.Reply.TheVariants as reply
use Rattle.sd_gate.specs.declared.worker.Worker.{Worker}
use Rattle.sd_gate.specs.declared.worker.Worker.TheVariants.{Dumper, Opener}
use Rattle.sd_journal.specs.declared.entry.Entry.TheVariants.{Applied, Acked, Reopened}
use Rattle.sd_journal.specs.History.{History}
use Rattle.sd_crash_safety.specs.Calls.{AddsByCancel, AddsByOrder, AddsByWorked, IsJournaled, IsUnjournaled}
use Rattle.sd_crash_safety.specs.View.{CoreView, history_of}
use Rattle.sd_world.specs.declared.event.Event.{Event}
use Rattle.sd_world.specs.declared.event.Event.TheVariants.{Command as CommandEvent, Begin, Work, TakeUp, HandInAt}
use Rattle.sd_world.specs.declared.event.Event.TheVariants.{Perform, PerformAt, Merge, Cancel, Reopen, Trim}

-- refused with a full journal or for lack of memory
pub record IsUnjournaledReply (answer : Reply) : Type 0 where
  pub why : Refusal
  pub either : IsUnjournaled why
  pub is : answer ≡ reply.Refused why

-- a command adds the entry with its reply; or the journal is full or memory is wanting, and it adds none
abbrev pub AddsByCommand : ℕ → Command → Reply → History → History → Type 0
AddsByCommand seat command answer old new = (IsJournaled answer × (new ≡ Applied seat command answer ∷ old))
    ⊎ (IsUnjournaledReply answer × (new ≡ old))

-- a worker's event adds what its reply says; the dumper's may add the freeze
abbrev pub AddsByWork : Worker → CoreView → Reply → History → History → Type 0
AddsByWork worker core reply.Worked old new = AddsByWorked worker core old new
AddsByWork worker core (reply.Acked n) old new = (worker ≡ Dumper) × (new ≡ Acked n ∷ old)
AddsByWork worker core (reply.Reopened m) old new = (worker ≡ Opener) × (new ≡ Reopened m ∷ old)
AddsByWork worker core (reply.Merged serial) old new = new ≡ old
AddsByWork worker core (reply.Refused why) old new = new ≡ old
AddsByWork worker core _ old new = ⊥

-- a device call adds nothing
abbrev pub AddsByPerform : Reply → History → History → Type 0
AddsByPerform reply.Worked old new = new ≡ old
AddsByPerform (reply.Refused why) old new = new ≡ old
AddsByPerform _ old new = ⊥

-- the order to trim the journal adds nothing, and takes as many entries from the front as it answers
pub record TakesEntries (count : ℕ) (old new : History) : Type 0 where
  pub taken : History
  pub parts : old ≡ new ++ taken
  pub many : length taken ≡ count

abbrev pub AddsByTrim : Reply → History → History → Type 0
AddsByTrim (reply.Trimmed count) old new = TakesEntries count old new
AddsByTrim (reply.Refused why) old new = new ≡ old
AddsByTrim _ old new = ⊥

abbrev pub AddsBy : Event → CoreView → Reply → History → History → Type 0
AddsBy (CommandEvent seat command) core answer old new = AddsByCommand seat command answer old new
AddsBy (Begin rounds) core answer old new = AddsByOrder answer old new
AddsBy (Work worker) core answer old new = AddsByWork worker core answer old new
AddsBy (TakeUp worker) core answer old new = AddsByWork worker core answer old new
AddsBy (HandInAt worker place) core answer old new = AddsByWork worker core answer old new
AddsBy (Perform worker) core answer old new = AddsByPerform answer old new
AddsBy (PerformAt worker place) core answer old new = AddsByPerform answer old new
AddsBy Merge core answer old new = AddsByOrder answer old new
AddsBy Cancel core answer old new = AddsByCancel answer old new
AddsBy Reopen core answer old new = AddsByOrder answer old new
AddsBy Trim core answer old new = AddsByTrim answer old new

-- what an event with this reply adds to the journal of a core, or takes from its front
abbrev pub AddsToJournal : Event → Reply → CoreView → CoreView → Type 0
AddsToJournal event answer old new = AddsBy event old answer (history_of old) (history_of new)

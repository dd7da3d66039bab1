-- Steps of a core that hand no request out, and leave the store.
use Rattle.std.specs.Prelude.{◌≡◌, ℕ, List, ◌∷◌, Option, Some, None}
use Rattle.sd_command.specs.declared.command.Command.{Command}
use Rattle.sd_command.specs.declared.reply.Reply.{Reply}
use Rattle.sd_command.specs.Events.{event_of}
use Rattle.sd_gate.specs.Requests.{Asked}
use Rattle.sd_journal.specs.declared.entry.Entry.TheVariants.{Applied}
use Rattle.sd_journal.specs.History.{pending}
use Rattle.sd_journal.specs.Marked.{Told}
use Rattle.sd_pagetable.specs.Contents.{Contents, IsSound}
use Rattle.sd_pagetable.specs.Tracking.{Step}
use Rattle.sd_crash_safety.specs.Believes.{Believes}
use Rattle.sd_crash_safety.specs.View.{CoreView, history_of}

-- what is known of the store, and what is out, are as before
pub record SameStore (old new : CoreView) : Type 0 where
  pub base : new.base ≡ old.base
  pub phases : new.phases ≡ old.phases
  pub outs : new.outs ≡ old.outs
  pub opener : new.opener ≡ old.opener
  pub standing : new.standing ≡ old.standing
  pub catalog : new.catalog ≡ old.catalog
  pub grows : new.grows ≡ old.grows
  pub committing : new.committing ≡ old.committing
  pub dumper : new.dumper ≡ old.dumper
  pub merger : new.merger ≡ old.merger
  pub serial : new.numbers.serial ≡ old.numbers.serial

-- the journal's entries and the memory too
pub record SameCore (old new : CoreView) : Type 0 where
  pub store : SameStore old new
  pub history : history_of new ≡ history_of old
  pub memory : new.memory ≡ old.memory

-- a command makes its event's step, but leaves the memory while a checkpoint is pending
abbrev pub IsCommanded : Option ℕ → Command → Reply → Contents → Contents → Type 0
IsCommanded None command told old new = IsSound old × Step old (event_of command told) new
IsCommanded (Some n) command told old new = new ≡ old

pub record JournalsCommand (old : CoreView) (seat : ℕ) (command : Command) (told : Reply)
    (new : CoreView) : Type 0 where
  pub store : SameStore old new
  pub items : new.items ≡ Told (Applied seat command told) ∷ old.items
  pub memory : IsCommanded (pending (history_of old)) command told old.memory new.memory

-- what is believed of the slots stays where a core stays as it is, and where it journals a command
pub record CoreSteps : Type 0 where
  pub same : (old new : CoreView) (asked : List (Option Asked)) (bodies files : List (List ℕ)) → SameCore old new
      → Believes old asked bodies files → Believes new asked bodies files
  pub applied : (old new : CoreView) (seat : ℕ) (command : Command) (told : Reply) (asked : List (Option Asked))
      (bodies files : List (List ℕ))
      → JournalsCommand old seat command told new → Believes old asked bodies files → Believes new asked bodies files

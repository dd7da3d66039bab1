-- Journals of two checkpoints, one entry after the other: `one` and `other` are commands, each with its reply.
use Rattle.std.specs.Prelude.{[], ◌∷◌, Some, None}
use Rattle.std.specs.FinMap as finmap
use Rattle.sd_areas.specs.PlainMemory.{PlainMemory}
use Rattle.sd_command.specs.declared.command.Command.{Command}
use Rattle.sd_command.specs.declared.reply.Reply.{Reply}
use Rattle.sd_command.specs.Replies.{effect}
use Rattle.sd_journal.specs.declared.entry.Entry.TheVariants.{Applied, Freeze, Acked, Cancelled, Reopened}
use Rattle.sd_journal.specs.declared.origin.Origin.TheVariants.{Opened}
use Rattle.sd_journal.specs.History.{Base, History}
use Rattle.sd_journal.specs.Allowed.{IsAllowed}

-- space 1 alone, without pages and without a checkpoint
abbrev pub empty_base : Base
empty_base = record { number = None; memory = finmap.insert finmap.empty 1 finmap.empty; origin = Opened; folded = 0 }

-- a run on what an earlier one saved as its checkpoint 7
abbrev pub second_base : PlainMemory → Base
second_base memory = record { number = Some 7; memory = memory; origin = Opened; folded = 0 }

module _ (one other : Command) (done again : Reply) where
  abbrev pub first : PlainMemory
  first = effect one done empty_base.memory

  abbrev pub second : PlainMemory
  second = effect other again first

  abbrev pub first_frozen : History
  first_frozen = Freeze 1 ∷ Applied 0 one done ∷ []

  abbrev pub saved : History
  saved = Acked 1 ∷ first_frozen

  abbrev pub doubtful : History
  doubtful = Freeze 2 ∷ Applied 1 other again ∷ saved

  pub record WorkedJournal : Type 0 where
    -- while the first checkpoint is written it is allowed, and so is nothing
    pub first_written : IsAllowed empty_base first_frozen (Some (1, first))
    pub or_nothing : IsAllowed empty_base first_frozen None
    -- once it is acknowledged, nothing else
    pub first_saved : IsAllowed empty_base saved (Some (1, first))
    pub not_empty : IsAllowed empty_base saved None → ⊥
    -- while the second is in doubt, both
    pub first_still : IsAllowed empty_base doubtful (Some (1, first))
    pub second_too : IsAllowed empty_base doubtful (Some (2, second))
    -- a reopening that found the second leaves that alone, and one that found the first, the first
    pub found_second : IsAllowed empty_base (Reopened (Some 2) ∷ doubtful) (Some (2, second))
    pub found_first : (memory : PlainMemory) → IsAllowed empty_base (Reopened (Some 1) ∷ doubtful) (Some (2, memory))
        → ⊥
    -- a cancelled one is never shown
    pub taken_back : (memory : PlainMemory) → IsAllowed empty_base (Cancelled 2 ∷ doubtful) (Some (2, memory)) → ⊥
    -- a second run begins with the checkpoint that it found
    pub second_run : (memory : PlainMemory)
        → IsAllowed (second_base memory) (Applied 0 one done ∷ []) (Some (7, memory))

abbrev pub WorkedJournals : Type 0
WorkedJournals = (one other : Command) (done again : Reply) → WorkedJournal one other done again

-- What the order to trim the journal answers and leaves.
use Rattle.std.specs.Prelude.{◌≡◌, ℕ, ◌≤◌, ◌^◌, ◌++◌, length, Some, None}
use Rattle.sd_command.specs.declared.refusal.Refusal.TheVariants.{Idle}
use Rattle.sd_command.specs.declared.reply.Reply.{Reply}
use Rattle.sd_command.specs.declared.reply.Reply.TheVariants as reply
use Rattle.sd_journal.specs.History.{last}
use Rattle.sd_journal.specs.Marked.{Marked, entries_of}
use Rattle.sd_journal.specs.Trimming.{IsFolded}
use Rattle.sd_crash_safety.specs.Trims.{trimmed}
use Rattle.sd_crash_safety.specs.View.{CoreView, history_of}
use Rattle.sd_core.specs.Trims.{MayRefuse, folded_with, unfolded}

-- The front is folded into the base, and nothing else changes; the answer is how many entries it had.
abbrev pub TrimsFrontTo : ℕ → CoreView → Marked → Marked → Reply → CoreView → Type 0
TrimsFrontTo n old kept front (reply.Trimmed count) new =
    (count ≡ length (entries_of front)) × (folded_with old front ≤ 2 ^ 62) × (new ≡ trimmed old n kept front)
TrimsFrontTo n old kept front (reply.Refused why) new = MayRefuse old front why × (new ≡ old)
TrimsFrontTo n old kept front _ new = ⊥

-- the front ends with the entry that ended the pending of the last checkpoint
pub record TrimsTo (n : ℕ) (old : CoreView) (answer : Reply) (new : CoreView) : Type 0 where
  pub kept : Marked
  pub front : Marked
  pub parts : old.items ≡ kept ++ front
  pub ended : IsFolded n front
  pub does : TrimsFrontTo n old kept front answer new

-- refused as idle where there is no last checkpoint but the base's, and else the journal is trimmed to the last one
pub record TrimsJournal (old : CoreView) (answer : Reply) (new : CoreView) : Type 0 where
  pub idle : unfolded (last old.base (history_of old)) old.base.number ≡ None
      → (answer ≡ reply.Refused Idle) × (new ≡ old)
  pub trims : (n : ℕ) → unfolded (last old.base (history_of old)) old.base.number ≡ Some n → TrimsTo n old answer new

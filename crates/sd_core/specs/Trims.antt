-- Trims of a core's journal.
use Rattle.std.specs.Prelude.{◌≡◌, ℕ, ◌+◌, ◌==◌, ◌<◌, ◌≤◌, ◌^◌, if◌then◌else◌, ◌++◌, length, reverse, Option, Some}
use Rattle.std.specs.Prelude.{None, Result, Ok, Err}
use Rattle.sd_command.specs.declared.refusal.Refusal.{Refusal}
use Rattle.sd_command.specs.declared.refusal.Refusal.TheVariants.{NumbersUsed, OutOfMemory}
use Rattle.sd_journal.specs.Kept.{JournalView}
use Rattle.sd_journal.specs.Marked.{Marked, entries_of}
use Rattle.sd_journal.specs.Trimming.{IsFolded, base_after}
use Rattle.sd_receipts.specs.declared.folded.Folded.{Folded}
use Rattle.sd_crash_safety.specs.Trims.{trimmed}
use Rattle.sd_crash_safety.specs.View.{CoreView}
use Rattle.sd_core.specs.declared.base.CoreBase.{CoreBase}
use Rattle.sd_core.specs.Starts.{base_of}

-- the last checkpoint, unless it is the base's
abbrev pub unfolded : Option ℕ → Option ℕ → Option ℕ
unfolded None number = None
unfolded (Some n) None = Some n
unfolded (Some n) (Some m) = if n == m then None else Some n

-- the entries of the front are handed out in order of time, with the number of the first
pub record HandsOutFront (first : ℕ) (front : Marked) (folded : Folded) : Type 0 where
  pub first_is : folded.first ≡ first
  pub entries : folded.entries.items ≡ reverse (entries_of front)

-- the front of the journal is folded into the base, and the rest is kept
pub record FoldsFront (n : ℕ) (folded : Folded) (old : CoreBase) (before : JournalView) (new : CoreBase)
    (after : JournalView) : Type 0 where
  pub front : Marked
  pub parts : before.items ≡ after.items ++ front
  pub ended : IsFolded n front
  pub hands : HandsOutFront old.folded front folded
  pub base : base_of new ≡ base_after (base_of old) n (entries_of front)
  pub first : after.first ≡ new.folded
  pub held : after.held ≡ before.held
  pub limit : after.limit ≡ before.limit

-- how many entries would have been folded in all
abbrev pub folded_with : CoreView → Marked → ℕ
folded_with core front = core.base.folded + length (entries_of front)

-- why a trim of this front may be refused
abbrev pub MayRefuse : CoreView → Marked → Refusal → Type 0
MayRefuse old front NumbersUsed = 2 ^ 62 < folded_with old front
MayRefuse old front OutOfMemory = folded_with old front ≤ 2 ^ 62
MayRefuse old front _ = ⊥

-- what a trim of this front leaves
abbrev pub TrimsFront : ℕ → CoreView → Marked → Marked → Result Folded Refusal → CoreView → Type 0
TrimsFront n old kept front (Ok folded) new =
    (folded_with old front ≤ 2 ^ 62) × HandsOutFront old.base.folded front folded × (new ≡ trimmed old n kept front)
TrimsFront n old kept front (Err why) new = MayRefuse old front why × (new ≡ old)

-- Up to and with the entry that ended the pending of the last checkpoint the journal is folded, nothing else changes;
-- or this is refused and nothing changes.
pub record Trims (n : ℕ) (old : CoreView) (result : Result Folded Refusal) (new : CoreView) : Type 0 where
  pub kept : Marked
  pub front : Marked
  pub parts : old.items ≡ kept ++ front
  pub ended : IsFolded n front
  pub does : TrimsFront n old kept front result new

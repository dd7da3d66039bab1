-- Journals, read from their newest entry: the memory that they make, and which checkpoints they speak of.
use Rattle.std.specs.Prelude.{ℕ, ◌==◌, if◌then◌else◌, List, [], ◌∷◌, Option, Some, None}
use Rattle.sd_areas.specs.PlainMemory.{PlainMemory}
use Rattle.sd_command.specs.Replies.{effect}
use Rattle.sd_journal.specs.declared.entry.Entry.{Entry}
use Rattle.sd_journal.specs.declared.entry.Entry.TheVariants.{Applied, Freeze, Acked, Cancelled, Reopened}
use Rattle.sd_journal.specs.declared.origin.Origin.{Origin}

-- what a run goes on from: a memory, the number of its checkpoint, if it has one, where these come from, and how many
-- entries were ever folded into it
pub record Base : Type 0 where
  pub number : Option ℕ
  pub memory : PlainMemory
  pub origin : Origin
  pub folded : ℕ

-- the entries of a journal, the newest first
abbrev pub History : Type 0
History = List Entry

-- the plain memory that the base and the entries make
abbrev pub memory_after : Base → History → PlainMemory
memory_after base [] = base.memory
memory_after base (Applied seat command reply ∷ earlier) = effect command reply (memory_after base earlier)
memory_after base (Freeze n ∷ earlier) = memory_after base earlier
memory_after base (Acked n ∷ earlier) = memory_after base earlier
memory_after base (Cancelled n ∷ earlier) = memory_after base earlier
memory_after base (Reopened m ∷ earlier) = memory_after base earlier

-- the base's memory, for its own number
abbrev pub at_base : Option ℕ → PlainMemory → ℕ → Option PlainMemory
at_base None memory n = None
at_base (Some own) memory n = if own == n then Some memory else None

-- the memory at the freeze of a number: what the base and the entries before it make
abbrev pub at_freeze : Base → History → ℕ → Option PlainMemory
at_freeze base [] n = at_base base.number base.memory n
at_freeze base (Applied seat command reply ∷ earlier) n = at_freeze base earlier n
at_freeze base (Freeze m ∷ earlier) n = if m == n then Some (memory_after base earlier) else at_freeze base earlier n
at_freeze base (Acked m ∷ earlier) n = at_freeze base earlier n
at_freeze base (Cancelled m ∷ earlier) n = at_freeze base earlier n
at_freeze base (Reopened m ∷ earlier) n = at_freeze base earlier n

-- the last checkpoint: the number in the latest acknowledgement or reopening, else the base's
abbrev pub last : Base → History → Option ℕ
last base [] = base.number
last base (Applied seat command reply ∷ earlier) = last base earlier
last base (Freeze n ∷ earlier) = last base earlier
last base (Acked n ∷ earlier) = Some n
last base (Cancelled n ∷ earlier) = last base earlier
last base (Reopened m ∷ earlier) = m

-- what is left pending when a number ends
abbrev pub unless_it_is : ℕ → Option ℕ → Option ℕ
unless_it_is n None = None
unless_it_is n (Some m) = if n == m then None else Some m

-- the pending checkpoint: the number of a freeze with no acknowledgement or cancelling of it, and no reopening, after
-- it
abbrev pub pending : History → Option ℕ
pending [] = None
pending (Applied seat command reply ∷ earlier) = pending earlier
pending (Freeze n ∷ earlier) = Some n
pending (Acked n ∷ earlier) = unless_it_is n (pending earlier)
pending (Cancelled n ∷ earlier) = unless_it_is n (pending earlier)
pending (Reopened m ∷ earlier) = None

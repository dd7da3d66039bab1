-- Legal journals: which entry may follow which.
use Rattle.std.specs.Prelude.{◌≡◌, ◌≢◌, ◌⊎◌, ℕ, ◌<◌, [], ◌∷◌, None, Some, IfSome, is_some}
use Rattle.sd_command.specs.Replies.{IsLegalReply}
use Rattle.sd_journal.specs.declared.entry.Entry.{Entry}
use Rattle.sd_journal.specs.declared.entry.Entry.TheVariants.{Applied, Freeze, Acked, Cancelled, Reopened}
use Rattle.sd_journal.specs.History.{Base, History, memory_after, last, pending}

-- a number above the base's and every number in the entries
abbrev pub IsAbove : Base → History → ℕ → Type 0
IsAbove base [] n = IfSome base.number (λ own. own < n)
IsAbove base (Applied seat command reply ∷ earlier) n = IsAbove base earlier n
IsAbove base (Freeze m ∷ earlier) n = (m < n) × IsAbove base earlier n
IsAbove base (Acked m ∷ earlier) n = (m < n) × IsAbove base earlier n
IsAbove base (Cancelled m ∷ earlier) n = (m < n) × IsAbove base earlier n
IsAbove base (Reopened m ∷ earlier) n = IfSome m (λ k. k < n) × IsAbove base earlier n

-- The entry may come next: a command with a legal reply; a freeze with none pending, under a number above all; an
-- acknowledgement of what is pending; a cancelling of what is pending, or, with none pending, of a number above all; a
-- reopening that found the last checkpoint, or the pending one where there is one.
abbrev pub MayFollow : Base → History → Entry → Type 0
MayFollow base earlier (Applied seat command reply) =
    IsLegalReply (memory_after base earlier) (is_some (pending earlier)) command reply
MayFollow base earlier (Freeze n) = (pending earlier ≡ None) × IsAbove base earlier n
MayFollow base earlier (Acked n) = pending earlier ≡ Some n
MayFollow base earlier (Cancelled n) =
    (pending earlier ≡ Some n) ⊎ ((pending earlier ≡ None) × IsAbove base earlier n)
MayFollow base earlier (Reopened m) =
    (m ≡ last base earlier) ⊎ ((pending earlier ≢ None) × (m ≡ pending earlier))

-- a legal journal: each entry may follow those before it
abbrev pub IsLegal : Base → History → Type 0
IsLegal base [] = Unit {0}
IsLegal base (entry ∷ earlier) = MayFollow base earlier entry × IsLegal base earlier

-- Trimming: the entries up to and with the one that ended the pending of a checkpoint are taken from the front of a
-- journal, and what is kept goes on from a new base, which is that checkpoint.
use Rattle.std.specs.Prelude.{◌≡◌, ◌≢◌, ◌↔◌, ◌+◌, ◌≤◌, ℕ, Bool, true, false, List, [], ◌∷◌, ◌++◌, length, reverse, take}
use Rattle.std.specs.Prelude.{Some}
use Rattle.std.specs.List.{list_any}
use Rattle.sd_pagetable.specs.Contents.{Contents}
use Rattle.sd_pagetable.specs.Tracking.{is_writable}
use Rattle.sd_journal.specs.declared.entry.Entry.{Entry}
use Rattle.sd_journal.specs.declared.entry.Entry.TheVariants.{Applied, Freeze, Acked, Cancelled, Reopened}
use Rattle.sd_journal.specs.declared.origin.Origin.TheVariants.{Trimmed}
use Rattle.sd_journal.specs.History.{Base, History, memory_after, at_freeze, last, pending}
use Rattle.sd_journal.specs.Legal.{IsAbove, IsLegal}
use Rattle.sd_journal.specs.Allowed.{Shown, IsAllowed, IsLastPair, IsPendingPair}
use Rattle.sd_journal.specs.Marked.{Told, Marked, entries_of, events_of, must_dump, is_mapped, is_of, last_visit}
use Rattle.sd_journal.specs.Marked.{memory_at, starts, visiting, IsMarked, IsTracked}
use Rattle.sd_journal.specs.TrackedLaws.{visited_since}
use Rattle.sd_journal.specs.Kept.{JournalView}

-- the entry, after those, ended the pending of a checkpoint: its acknowledgement, or the reopening that found it while
-- it was pending
abbrev pub Ends : ℕ → History → Entry → Type 0
Ends n before (Applied seat command reply) = ⊥
Ends n before (Freeze m) = ⊥
Ends n before (Acked m) = (m ≡ n) × (pending before ≡ Some n)
Ends n before (Cancelled m) = ⊥
Ends n before (Reopened m) = (m ≡ Some n) × (pending before ≡ Some n)

-- the last of these entries ended the pending of a checkpoint
abbrev pub IsEnded : ℕ → History → Type 0
IsEnded n [] = ⊥
IsEnded n (entry ∷ before) = Ends n before entry

-- so many entries from the front, in order of time, end with that one
abbrev pub EndsAt : ℕ → List Entry → ℕ → Type 0
EndsAt n entries count = (count ≤ length entries) × IsEnded n (reverse (take count entries))

-- the last of these entries is an acknowledgement
abbrev pub is_acknowledged : History → Bool
is_acknowledged (Acked n ∷ before) = true
is_acknowledged _ = false

-- the base that is left when entries are folded: the memory that they make, under the checkpoint's number
abbrev pub base_after : Base → ℕ → History → Base
base_after base n folded = record {
  number = Some n;
  memory = memory_after base folded;
  origin = Trimmed (is_acknowledged folded);
  folded = base.folded + length folded;
}

-- Of a legal journal, the front that ended the pending of a checkpoint is folded, and the rest is kept.
pub record TrimLaws : Type 0 where
  -- the new base is the memory at the checkpoint's freeze
  pub freeze : (base : Base) (kept folded : History) (n : ℕ) → IsLegal base (kept ++ folded) → IsEnded n folded
      → at_freeze base (kept ++ folded) n ≡ Some (memory_after base folded)
  -- what is kept is a legal journal on it, and makes the same memory
  pub legal : (base : Base) (kept folded : History) (n : ℕ) → IsLegal base (kept ++ folded) → IsEnded n folded
      → IsLegal (base_after base n folded) kept
  pub memory : (base : Base) (kept folded : History) (n : ℕ)
      → memory_after (base_after base n folded) kept ≡ memory_after base (kept ++ folded)
  -- the last and the pending checkpoint are the same
  pub last_stays : (base : Base) (kept folded : History) (n : ℕ) → IsEnded n folded
      → last (base_after base n folded) kept ≡ last base (kept ++ folded)
  pub pending_stays : (kept folded : History) (n : ℕ) → IsEnded n folded → pending kept ≡ pending (kept ++ folded)
  -- so are the pairs of both, and it allows the same to be shown
  pub last_pair : (base : Base) (kept folded : History) (n : ℕ) (shown : Shown) → IsLegal base (kept ++ folded)
      → IsEnded n folded
      → IsLastPair (base_after base n folded) kept shown ↔ IsLastPair base (kept ++ folded) shown
  pub pending_pair : (base : Base) (kept folded : History) (n : ℕ) (shown : Shown) → IsLegal base (kept ++ folded)
      → IsEnded n folded
      → IsPendingPair (base_after base n folded) kept shown ↔ IsPendingPair base (kept ++ folded) shown
  pub allowed : (base : Base) (kept folded : History) (n : ℕ) (shown : Shown) → IsLegal base (kept ++ folded)
      → IsEnded n folded
      → IsAllowed (base_after base n folded) kept shown ↔ IsAllowed base (kept ++ folded) shown
  -- a number is above all of it as before
  pub above : (base : Base) (kept folded : History) (n k : ℕ) → IsLegal base (kept ++ folded) → IsEnded n folded
      → IsAbove (base_after base n folded) kept k ↔ IsAbove base (kept ++ folded) k
  -- there is one such front at most, and there is one where the last checkpoint isn't the base's
  pub one : (base : Base) (kept folded other_kept other : History) (n : ℕ) → IsLegal base (kept ++ folded)
      → kept ++ folded ≡ other_kept ++ other → IsEnded n folded → IsEnded n other → folded ≡ other
  pub some : (base : Base) (history : History) (n : ℕ) → IsLegal base history → last base history ≡ Some n
      → base.number ≢ Some n
      → (kept : History) × (folded : History) × (history ≡ kept ++ folded) × IsEnded n folded

-- ---- a tracked memory

-- the newest of these is an entry
abbrev pub IsEntryFirst : Marked → Type 0
IsEntryFirst items = (entry : Entry) × (earlier : Marked) × (items ≡ Told entry ∷ earlier)

-- Each page of the memory was visited, and nothing touched it since.
pub record HasVisited (base : Base) (folded : Marked) : Type 0 where
  pub clean : (space page : ℕ) → is_mapped (memory_at base folded) space page ≡ true
      → must_dump base folded space page ≡ false
  pub protected : (space page : ℕ) → is_mapped (memory_at base folded) space page ≡ true
      → is_writable (events_of folded) space page ≡ false

-- Of a marked journal, the front is folded that ended the pending of a checkpoint.
pub record IsFolded (n : ℕ) (folded : Marked) : Type 0 where
  pub newest : IsEntryFirst folded
  pub ended : IsEnded n (entries_of folded)

-- The front of a marked journal is folded, and the rest is kept.
pub record MarkedTrimLaws : Type 0 where
  -- its entries are those of both
  pub entries : (kept folded : Marked) → entries_of (kept ++ folded) ≡ entries_of kept ++ entries_of folded
  -- the marks that are kept may stand, and are of the same visits
  pub marked : (base : Base) (kept folded : Marked) (n : ℕ) → IsMarked base (kept ++ folded) → IsFolded n folded
      → IsMarked (base_after base n (entries_of folded)) kept
  pub visiting_stays : (kept folded : Marked) (n : ℕ) → IsFolded n folded → visiting kept ≡ visiting (kept ++ folded)
  -- an image whose start is kept has no mark among what was folded
  pub fresh : (base : Base) (kept folded : Marked) (serial : ℕ) → IsMarked base (kept ++ folded)
      → list_any (starts serial) kept ≡ true
      → list_any (is_of serial) folded ≡ false
  pub cursor_stays : (base : Base) (kept folded : Marked) (n serial : ℕ) → IsMarked base (kept ++ folded)
      → IsFolded n folded
      → visiting kept ≡ Some serial → last_visit kept serial ≡ last_visit (kept ++ folded) serial
  -- each page of the folded memory was visited where each was since the checkpoint's freeze
  pub visited : (base : Base) (folded : Marked) (n : ℕ) → IsMarked base folded → IsFolded n folded
      → ((space page : ℕ) → is_mapped (memory_at base folded) space page ≡ true
      → visited_since folded n space page ≡ true)
      → HasVisited base folded
  -- where each page of the folded memory was visited, the pages must be dumped that had to be, and the memory stays
  -- tracked
  pub must_dump_stays : (base : Base) (kept folded : Marked) (n space page : ℕ) → IsFolded n folded
      → HasVisited base folded
      → is_mapped (memory_at base (kept ++ folded)) space page ≡ true
      → must_dump (base_after base n (entries_of folded)) kept space page ≡ must_dump base (kept ++ folded) space page
  pub tracked : (base : Base) (kept folded : Marked) (contents : Contents) (n : ℕ)
      → IsTracked base (kept ++ folded) contents
      → IsFolded n folded → HasVisited base folded → IsTracked (base_after base n (entries_of folded)) kept contents

-- ---- a journal as it is kept

-- So many entries were taken from the front, with the marks between them: a mark after the last of them is kept. The
-- others keep their numbers.
pub record TakesFront (many : ℕ) (taken : List Entry) (old new : JournalView) : Type 0 where
  pub gone : Marked
  pub parts : old.items ≡ new.items ++ gone
  pub newest : IsEntryFirst gone
  pub entries : taken ≡ reverse (entries_of gone)
  pub count : length taken ≡ many
  pub first : new.first ≡ old.first + many
  pub held : new.held ≡ old.held
  pub limit : new.limit ≡ old.limit

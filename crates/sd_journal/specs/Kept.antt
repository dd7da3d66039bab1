-- A journal as it is kept: its entries are numbered, marks stand between them, and some free entries are held.
use Rattle.std.specs.Prelude.{◌≡◌, ℕ, ◌+◌, ◌-◌, ◌≤◌, Bool, leb, List, [], ◌∷◌, ◌++◌, length, map, take, drop}
use Rattle.sd_journal.specs.declared.placed_mark.PlacedMark.{PlacedMark}
use Rattle.sd_journal.specs.History.{History}
use Rattle.sd_journal.specs.Marked.{Told, Noted, Marked, entries_of}

-- the state of a journal
pub record JournalView : Type 0 where
  -- the number of the first entry
  pub first : ℕ
  -- the entries and marks, the newest first
  pub items : Marked
  -- free entries that are held for what has to be written later
  pub held : ℕ
  -- the most entries that it may have, with those held
  pub limit : ℕ
  -- how many entries, and how many marks, can be added without memory
  pub room : ℕ
  pub mark_room : ℕ

-- how many entries a journal has
abbrev pub entry_count : JournalView → ℕ
entry_count journal = length (entries_of journal.items)

-- the number of the next entry
abbrev pub next_number : JournalView → ℕ
next_number journal = journal.first + entry_count journal

-- only the room has changed, and it didn't become less
pub record HasGrown (old new : JournalView) : Type 0 where
  pub first : new.first ≡ old.first
  pub items : new.items ≡ old.items
  pub held : new.held ≡ old.held
  pub limit : new.limit ≡ old.limit
  pub room : old.room ≤ new.room
  pub mark_room : old.mark_room ≤ new.mark_room

-- the numbering and the limit are as before
pub record HasSameNumbers (old new : JournalView) : Type 0 where
  pub first : new.first ≡ old.first
  pub limit : new.limit ≡ old.limit

-- ---- inside `Journal`

-- the entries and the marks in one list, all with the newest first: next is the number of the entry that will follow
abbrev pub woven : ℕ → History → List PlacedMark → Marked
woven next entries [] = map Told entries
woven next entries (placed ∷ earlier) = map Told (take (next - placed.before) entries)
    ++ Noted placed.mark ∷ woven placed.before (drop (next - placed.before) entries) earlier

-- each mark stands before the entry with that number, and none before an older one
abbrev pub AreWithin : ℕ → List PlacedMark → Type 0
AreWithin next [] = Unit {0}
AreWithin next (placed ∷ earlier) = (placed.before ≤ next) × AreWithin placed.before earlier

-- it stands after the entries before that number
abbrev pub is_after_entries : ℕ → PlacedMark → Bool
is_after_entries number placed = leb number placed.before

-- Entries and marks in one list, and what one more of either makes of it.
use Rattle.std.proofs.Common.{◌≡◌, ℕ, suc, ◌+◌, ◌-◌, ◌≤◌, List, [], ◌∷◌, ◌++◌, length, take, drop, map, reverse, refl, ◌∙◌, ap, arith}
use Rattle.std.proofs.lemmas.List.{reverse-append, length-reverse, take-append-drop}
use Rattle.sd_journal.specs.declared.entry.Entry.{Entry}
use Rattle.sd_journal.specs.declared.mark.Mark.{Mark}
use Rattle.sd_journal.specs.declared.placed_mark.PlacedMark.{PlacedMark}
use Rattle.sd_journal.specs.History.{History}
use Rattle.sd_journal.specs.Marked.{Told, Noted, Marked, entries_of}
use Rattle.sd_journal.specs.Kept.{woven, AreWithin}

pub woven_entry : (next : ℕ) (entry : Entry) (entries : History) (marks : List PlacedMark) → AreWithin next marks
    → woven (next + 1) (entry ∷ entries) marks ≡ Told entry ∷ woven next entries marks
woven_entry next entry entries [] within = refl
woven_entry next entry entries (placed ∷ earlier) within =
    let first : placed.before ≤ next = within.0 in
    let one : next + 1 - placed.before ≡ suc (next - placed.before) = omega arith in
    rw one refl

woven_mark : (mark : Mark) (next : ℕ) (entries : History) (marks : List PlacedMark)
    → woven next entries (record { before = next; mark = mark } ∷ marks) ≡ Noted mark ∷ woven next entries marks
woven_mark mark next entries marks = grind arith

entries_told : (entries : History) (items : Marked) → entries_of (map Told entries ++ items) ≡ entries ++ entries_of items
entries_told [] items = refl
entries_told (entry ∷ entries) items = ap (λ rest. entry ∷ rest) (entries_told entries items)

entries_alone : (entries : History) → entries_of (map Told entries) ≡ entries
entries_alone [] = refl
entries_alone (entry ∷ entries) = ap (λ rest. entry ∷ rest) (entries_alone entries)

pub entries_of-woven : (next : ℕ) (entries : History) (marks : List PlacedMark) → entries_of (woven next entries marks) ≡ entries
entries_of-woven next entries [] = entries_alone entries
entries_of-woven next entries (placed ∷ earlier) =
    let k = next - placed.before in
    entries_told (take k entries) (Noted placed.mark ∷ woven placed.before (drop k entries) earlier)
    ∙ ap (λ rest. take k entries ++ rest) (entries_of-woven placed.before (drop k entries) earlier)
    ∙ take-append-drop k entries

pub within_more : (n m : ℕ) (marks : List PlacedMark) → n ≤ m → AreWithin n marks → AreWithin m marks
within_more n m [] less within = within
within_more n m (placed ∷ earlier) less within =
    let first : placed.before ≤ n = within.0 in
    let so : placed.before ≤ m = omega arith in
    (so, within.1)

-- ---- of lists in order of time

-- the entries alone
pub entries_in : (next : ℕ) (entries : List Entry) (marks : List PlacedMark) → entries_of (woven next (reverse entries) (reverse marks)) ≡ reverse entries
entries_in next entries marks = entries_of-woven next (reverse entries) (reverse marks)

pub count_in : (next : ℕ) (entries : List Entry) (marks : List PlacedMark) → length (entries_of (woven next (reverse entries) (reverse marks))) ≡ length entries
count_in next entries marks = ap length (entries_in next entries marks) ∙ length-reverse entries

pub after_entry : (next more : ℕ) (entry : Entry) (old new : List Entry) (marks : List PlacedMark) → AreWithin next (reverse marks) → more ≡ next + 1
    → new ≡ old ++ entry ∷ [] → woven more (reverse new) (reverse marks) ≡ Told entry ∷ woven next (reverse old) (reverse marks)
after_entry next more entry old new marks within one e = grind (arith, reverse-append, woven_entry)

turned_mark : (placed : PlacedMark) (old new : List PlacedMark) → new ≡ old ++ placed ∷ [] → reverse new ≡ placed ∷ reverse old
turned_mark placed old new e = ap reverse e ∙ reverse-append old (placed ∷ [])

pub after_mark : (mark : Mark) (next before : ℕ) (entries : List Entry) (old new : List PlacedMark) → before ≡ next
    → new ≡ old ++ record { before = before; mark = mark } ∷ []
    → woven next (reverse entries) (reverse new) ≡ Noted mark ∷ woven next (reverse entries) (reverse old)
after_mark mark next before entries old new at e = grind (arith, turned_mark, woven_mark)

pub within_mark : (mark : Mark) (before next : ℕ) (old new : List PlacedMark) → before ≡ next
    → new ≡ old ++ record { before = before; mark = mark } ∷ [] → AreWithin next (reverse old) → AreWithin next (reverse new)
within_mark mark before next old new at e within = grind (arith, turned_mark)

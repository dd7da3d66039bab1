-- The front of a journal, as a list in order of time.
use Rattle.std.proofs.Common.{◌≡◌, ◌+◌, ℕ, suc, [], ◌∷◌, ◌++◌, length, drop, take, reverse, sym, ◌∙◌, ap, subst, arith}
use Rattle.std.proofs.lemmas.List.{length-append, length-reverse, reverse-append, reverse-reverse, take-append-drop}
use Rattle.std.proofs.Math.Seq.{take-append_seam}
use Rattle.sd_journal.specs.declared.entry.Entry.{Entry}
use Rattle.sd_journal.specs.History.{Base, History}
use Rattle.sd_journal.specs.Legal.{IsLegal}
use Rattle.sd_journal.specs.Marked.{Item, Marked, Noted, Told, entries_of}
use Rattle.sd_journal.specs.Trimming.{EndsAt, IsEnded, IsEntryFirst, MarkedTrimLaws}

-- the entries so many from the front, the newest first
pub front_of : (kept front : History) → reverse (take (length front) (reverse (kept ++ front))) ≡ front
front_of kept front =
    ap (λ l. reverse (take (length front) l)) (reverse-append kept front)
    ∙ ap (λ n. reverse (take n (reverse front ++ reverse kept))) (sym (length-reverse front))
    ∙ ap reverse (take-append_seam (reverse front) (reverse kept))
    ∙ reverse-reverse front

-- a front that ended a checkpoint ends there
pub ends_of : (n : ℕ) (history kept front : History) → history ≡ kept ++ front → IsEnded n front → EndsAt n (reverse history) (length front)
ends_of n history kept front is ended =
    let long : length (reverse history) ≡ length kept + length front = length-reverse history ∙ ap length is ∙ length-append kept front in
    (omega (arith, long), subst (IsEnded n) (sym (ap (λ h. reverse (take (length front) (reverse h))) is ∙ front_of kept front)) ended)

-- the front of a legal journal is legal
pub legal_front : (base : Base) (kept front : History) → IsLegal base (kept ++ front) → IsLegal base front
legal_front base [] front legal = legal
legal_front base (entry ∷ kept) front legal = legal_front base kept front legal.1

pub parts_of : (history : History) (count : ℕ) → history ≡ reverse (drop count (reverse history)) ++ reverse (take count (reverse history))
parts_of history count = sym (reverse-reverse history) ∙ ap reverse (sym (take-append-drop count (reverse history)))
    ∙ reverse-append (take count (reverse history)) (drop count (reverse history))

-- the marked front with so many entries has those
pub front_entries : MarkedTrimLaws → (items kept front : Marked) (count : ℕ) → items ≡ kept ++ front → length (entries_of front) ≡ count
    → reverse (take count (reverse (entries_of items))) ≡ entries_of front
front_entries laws items kept front count is many =
    ap (λ h. reverse (take count (reverse h))) (ap entries_of is ∙ laws.entries kept front)
    ∙ ap (λ n. reverse (take n (reverse (entries_of kept ++ entries_of front)))) (sym many)
    ∙ front_of (entries_of kept) (entries_of front)

-- ---- there is one such front

longer : {P : Type 0} (e : Entry) (one other : History) → e ∷ (one ++ other) ≡ other → P
longer e one other same = absurd (let long : suc (length (one ++ other)) ≡ length other = ap length same in let parts = length-append one other in omega (arith, long, parts))

not_entry : {P : Type 0} (laws : MarkedTrimLaws) (front kept other : Marked) (item : Item) → front ≡ item ∷ (kept ++ other) → IsEntryFirst front → entries_of front ≡ entries_of other → P
not_entry laws front kept other (Told entry) is first same = longer entry (entries_of kept) (entries_of other) (ap (λ h. entry ∷ h) (sym (laws.entries kept other)) ∙ sym (ap entries_of is) ∙ same)
not_entry laws front kept other (Noted mark) is first same = absurd (let no : Told first.0 ∷ first.1 ≡ Noted mark ∷ (kept ++ other) = sym first.2 ∙ is in cc)

pub same_front : MarkedTrimLaws → (kept front others other : Marked) → kept ++ front ≡ others ++ other → IsEntryFirst front → IsEntryFirst other → entries_of front ≡ entries_of other
    → front ≡ other
same_front laws [] front [] other is one two same = is
same_front laws [] front (item ∷ others) other is one two same = not_entry laws front others other item is one same
same_front laws (item ∷ kept) front [] other is one two same = not_entry laws other kept front item (sym is) two (sym same)
same_front laws (item ∷ kept) front (next ∷ others) other is one two same = same_front laws kept front others other (ap (drop 1) is) one two same

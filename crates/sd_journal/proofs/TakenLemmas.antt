-- Entries that are taken from the front of a journal, with the marks between them.
use Rattle.std.proofs.Common.{◌≡◌, ℕ, suc, ◌+◌, ◌-◌, ◌≤◌, ◌<◌, Bool, true, false, if◌then◌else◌, List, [], ◌∷◌, ◌++◌, length, take, drop, map, reverse, refl, sym, ◌∙◌, ap, subst, arith, append_assoc, length-drop, inl, inr}
use Rattle.std.specs.List.{filter}
use Rattle.std.proofs.lemmas.Bool.Decides.{leb_tells}
use Rattle.std.proofs.lemmas.List.{drop-append-le, length-reverse, length-take-le, reverse-append, reverse-reverse, take-append-drop, take-append-le}
use Rattle.std.proofs.lemmas.List.Elements.{filter-append}
use Rattle.sd_journal.specs.declared.entry.Entry.{Entry}
use Rattle.sd_journal.specs.declared.placed_mark.PlacedMark.{PlacedMark}
use Rattle.sd_journal.specs.History.{History}
use Rattle.sd_journal.specs.Kept.{woven, AreWithin, is_after_entries}
use Rattle.sd_journal.specs.Marked.{Told, Marked, entries_of}
use Rattle.sd_journal.specs.Trimming.{IsEntryFirst}
use Rattle.sd_journal.proofs.KeptLemmas.{entries_of-woven, within_more, woven_entry}

-- ---- marks

kept_one : (number : ℕ) (placed : PlacedMark) (earlier : List PlacedMark) → is_after_entries number placed ≡ true
    → filter (is_after_entries number) (placed ∷ earlier) ≡ placed ∷ filter (is_after_entries number) earlier
kept_one number placed earlier e =
    ap (λ b. if b then placed ∷ filter (is_after_entries number) earlier else filter (is_after_entries number) earlier) e

dropped_one : (number : ℕ) (placed : PlacedMark) (earlier : List PlacedMark) → is_after_entries number placed ≡ false
    → filter (is_after_entries number) (placed ∷ earlier) ≡ filter (is_after_entries number) earlier
dropped_one number placed earlier e =
    ap (λ b. if b then placed ∷ filter (is_after_entries number) earlier else filter (is_after_entries number) earlier) e

none_stands_after : (number next : ℕ) (marks : List PlacedMark) → AreWithin next marks → next < number → filter (is_after_entries number) marks ≡ []
none_stands_after number next [] within less = refl
none_stands_after number next (placed ∷ earlier) within less =
    elim (leb_tells number placed.before) [
      | inl behind ↦ absurd (omega (arith, behind.1, within.0, less))
      | inr before ↦ dropped_one number placed earlier before.0 ∙ none_stands_after number placed.before earlier within.1 before.1
    ]

pub within_filter : (number next : ℕ) (marks : List PlacedMark) → AreWithin next marks → AreWithin next (filter (is_after_entries number) marks)
within_filter number next [] within = within
within_filter number next (placed ∷ earlier) within =
    let rest : AreWithin placed.before (filter (is_after_entries number) earlier) = within_filter number placed.before earlier within.1 in
    elim (leb_tells number placed.before) [
      | inl behind ↦ subst (AreWithin next) (sym (kept_one number placed earlier behind.0)) (within.0, rest)
      | inr before ↦
          subst (AreWithin next) (sym (dropped_one number placed earlier before.0))
          (within_more placed.before next (filter (is_after_entries number) earlier) within.0 rest)
    ]

turned : (placed : PlacedMark) (marks : List PlacedMark) → reverse (placed ∷ marks) ≡ reverse marks ++ placed ∷ []
turned placed marks = reverse-append (placed ∷ []) marks

nothing_more : (marks : List PlacedMark) → marks ++ [] ≡ marks
nothing_more [] = refl
nothing_more (placed ∷ marks) = ap (λ rest. placed ∷ rest) (nothing_more marks)

pub filter-reverse : (p : PlacedMark → Bool) (marks : List PlacedMark) → reverse (filter p marks) ≡ filter p (reverse marks)
filter-reverse p [] = refl
filter-reverse p (placed ∷ marks) = by (p placed) refl (filter-reverse p marks)
  where
    one : filter p (reverse (placed ∷ marks)) ≡ filter p (reverse marks) ++ filter p (placed ∷ [])
    one = ap (filter p) (turned placed marks) ∙ filter-append p (reverse marks) (placed ∷ [])

    by : (b : Bool) → p placed ≡ b → reverse (filter p marks) ≡ filter p (reverse marks) → reverse (filter p (placed ∷ marks)) ≡ filter p (reverse (placed ∷ marks))
    by true e rest =
        let all : filter p (placed ∷ marks) ≡ placed ∷ filter p marks = ap (λ b. if b then placed ∷ filter p marks else filter p marks) e in
        let last : filter p (placed ∷ []) ≡ placed ∷ [] = ap (λ b. if b then placed ∷ [] else []) e in
        ap reverse all ∙ turned placed (filter p marks) ∙ ap (λ xs. xs ++ placed ∷ []) rest
        ∙ ap (λ xs. filter p (reverse marks) ++ xs) (sym last) ∙ sym one
    by false e rest =
        let all : filter p (placed ∷ marks) ≡ filter p marks = ap (λ b. if b then placed ∷ filter p marks else filter p marks) e in
        let last : filter p (placed ∷ []) ≡ [] = ap (λ b. if b then placed ∷ [] else []) e in
        ap reverse all ∙ rest ∙ sym (nothing_more (filter p (reverse marks)))
        ∙ ap (λ xs. filter p (reverse marks) ++ xs) (sym last) ∙ sym one

-- ---- entries with marks, the newest first

told_all : (next : ℕ) (newer older : History) (marks : List PlacedMark) → AreWithin next marks
    → woven (next + length newer) (newer ++ older) marks ≡ map Told newer ++ woven next older marks
told_all next [] older marks within = ap (λ n. woven n older marks) (zero_more next)
  where
    zero_more : (n : ℕ) → n + 0 ≡ n
    zero_more n = omega arith
told_all next (entry ∷ newer) older marks within =
    ap (λ n. woven n (entry ∷ newer ++ older) marks) (one_more next (length newer))
    ∙ woven_entry (next + length newer) entry (newer ++ older) marks (within_more next (next + length newer) marks (omega arith) within)
    ∙ ap (λ rest. Told entry ∷ rest) (told_all next newer older marks within)
  where
    one_more : (n k : ℕ) → n + suc k ≡ n + k + 1
    one_more n k = omega arith

-- the journal parts at a number: the marks after it go with the newer entries, and the others stand before the last of the older ones
record IsCut (under next : ℕ) (newer older : History) (marks : List PlacedMark) : Type 0 where
  old_marks : List PlacedMark
  within : AreWithin under old_marks
  parts : woven next (newer ++ older) marks ≡ woven next newer (filter (is_after_entries (under + 1)) marks) ++ woven (under + 1) older old_marks

behind_parts : (next number : ℕ) (newer older : History) (placed : PlacedMark) (earlier kept old_marks : List PlacedMark) (d : ℕ) → d ≡ next - placed.before
    → d ≤ length newer → filter (is_after_entries number) (placed ∷ earlier) ≡ placed ∷ kept
    → woven placed.before (drop d newer ++ older) earlier ≡ woven placed.before (drop d newer) kept ++ woven number older old_marks
    → woven next (newer ++ older) (placed ∷ earlier) ≡ woven next newer (filter (is_after_entries number) (placed ∷ earlier)) ++ woven number older old_marks
behind_parts next number newer older placed earlier kept old_marks d is short all rest = grind (arith, take-append-le, drop-append-le, append_assoc)

cut : (under next : ℕ) (newer older : History) (marks : List PlacedMark) → under + 1 + length newer ≡ next → AreWithin next marks
    → IsCut under next newer older marks
cut under next newer older [] e within = record {
  old_marks = [];
  within = tt;
  parts = ap (λ n. woven n (newer ++ older) []) (sym e) ∙ told_all (under + 1) newer older [] tt;
}
cut under next newer older (placed ∷ earlier) e within =
    elim (leb_tells (under + 1) placed.before) [
      | inl behind ↦
          let d = next - placed.before in
          let short : d ≤ length newer = omega (arith, e, within.0, behind.1) in
          let left : length (drop d newer) ≡ length newer - d = length-drop d newer in
          let more : under + 1 + length (drop d newer) ≡ placed.before = omega (arith, left, e, within.0, behind.1) in
          let rest = cut under placed.before (drop d newer) older earlier more within.1 in
          let kept = filter (is_after_entries (under + 1)) earlier in
          record {
            old_marks = rest.old_marks;
            within = rest.within;
            parts = behind_parts next (under + 1) newer older placed earlier kept rest.old_marks d refl short (kept_one (under + 1) placed earlier behind.0) rest.parts;
          }
      | inr before ↦
          let below : placed.before ≤ under = omega (arith, before.1) in
          let inside : AreWithin under (placed ∷ earlier) = (below, within.1) in
          let none : filter (is_after_entries (under + 1)) (placed ∷ earlier) ≡ [] =
          dropped_one (under + 1) placed earlier before.0 ∙ none_stands_after (under + 1) placed.before earlier within.1 before.1 in
          record {
            old_marks = placed ∷ earlier;
            within = inside;
            parts = ap (λ n. woven n (newer ++ older) (placed ∷ earlier)) (sym e)
                ∙ told_all (under + 1) newer older (placed ∷ earlier) (within_more under (under + 1) (placed ∷ earlier) (omega arith) inside)
                ∙ ap (λ xs. woven next newer xs ++ woven (under + 1) older (placed ∷ earlier)) (sym none);
          }
    ]

first_told : (under : ℕ) (older : History) (marks : List PlacedMark) → 0 < length older → AreWithin under marks → IsEntryFirst (woven (under + 1) older marks)
first_told under [] marks some within = absurd (omega (arith, some))
first_told under (entry ∷ older) marks some within = (entry, woven under older marks, woven_entry under entry older marks within)

-- ---- lists in order of time

-- what was taken from the front
pub record IsTaken (first count : ℕ) (entries : List Entry) (marks : List PlacedMark) : Type 0 where
  pub gone : Marked
  pub newest : IsEntryFirst gone
  pub entries_are : take count entries ≡ reverse (entries_of gone)
  pub parts : woven (first + length entries) (reverse entries) (reverse marks)
      ≡ woven (first + count + length (drop count entries)) (reverse (drop count entries)) (reverse (filter (is_after_entries (first + count)) marks)) ++ gone

-- the parts, said of a journal of which some names are other ones
renamed_parts : (next mid number at : ℕ) (all newer older : History) (marks kept old_marks : List PlacedMark) → all ≡ newer ++ older → mid ≡ next → at ≡ number
    → woven next (newer ++ older) marks ≡ woven next newer (filter (is_after_entries at) marks) ++ woven at older old_marks
    → filter (is_after_entries number) marks ≡ kept
    → woven next all marks ≡ woven mid newer kept ++ woven at older old_marks
renamed_parts next mid number at all newer older marks kept old_marks is same here parts left = grind arith

back_in_time : (number : ℕ) (front : List Entry) (older : History) (marks : List PlacedMark) → older ≡ reverse front → front ≡ reverse (entries_of (woven number older marks))
back_in_time number front older marks is =
    sym (reverse-reverse front) ∙ ap reverse (sym is) ∙ ap reverse (sym (entries_of-woven number older marks))

taken_by : (first count under : ℕ) (entries : List Entry) (newer older : History) (marks : List PlacedMark) → under + 1 ≡ first + count → 0 < count → count ≤ length entries
    → newer ≡ reverse (drop count entries) → older ≡ reverse (take count entries)
    → IsCut under (first + length entries) newer older (reverse marks) → IsTaken first count entries marks
taken_by first count under entries newer older marks number some within new_is old_is c =
    let went : length older ≡ count = ap length old_is ∙ length-reverse (take count entries) ∙ length-take-le count entries within in
    let also : first + count + length (drop count entries) ≡ first + length entries = omega (arith, length-drop count entries, within) in
    let all : reverse entries ≡ newer ++ older =
    ap reverse (sym (take-append-drop count entries)) ∙ reverse-append (take count entries) (drop count entries)
    ∙ ap (λ xs. xs ++ reverse (take count entries)) (sym new_is) ∙ ap (λ xs. newer ++ xs) (sym old_is) in
    record {
      gone = woven (under + 1) older c.old_marks;
      newest = first_told under older c.old_marks (subst (λ n. 0 < n) (sym went) some) c.within;
      entries_are = back_in_time (under + 1) (take count entries) older c.old_marks old_is;
      parts = renamed_parts (first + length entries) (first + count + length (drop count entries)) (first + count) (under + 1) (reverse entries) newer older (reverse marks)
          (reverse (filter (is_after_entries (first + count)) marks)) c.old_marks all also number c.parts (sym (filter-reverse (is_after_entries (first + count)) marks))
          ∙ ap (λ xs. woven (first + count + length (drop count entries)) xs (reverse (filter (is_after_entries (first + count)) marks)) ++ woven (under + 1) older c.old_marks) new_is;
    }

pub taken : (first count : ℕ) (entries : List Entry) (marks : List PlacedMark) → 0 < count → count ≤ length entries
    → AreWithin (first + length entries) (reverse marks) → IsTaken first count entries marks
taken first count entries marks some within marked =
    let number : first + count - 1 + 1 ≡ first + count = omega (arith, some) in
    let left : length (reverse (drop count entries)) ≡ length entries - count = length-reverse (drop count entries) ∙ length-drop count entries in
    let next : first + count - 1 + 1 + length (reverse (drop count entries)) ≡ first + length entries = omega (arith, number, left, within) in
    taken_by first count (first + count - 1) entries (reverse (drop count entries)) (reverse (take count entries)) marks number some within refl refl
    (cut (first + count - 1) (first + length entries) (reverse (drop count entries)) (reverse (take count entries)) (reverse marks) next marked)

pub taken_parts : (first count : ℕ) (entries kept : List Entry) (marks behind : List PlacedMark) (t : IsTaken first count entries marks)
    → kept ≡ drop count entries → behind ≡ filter (is_after_entries (first + count)) marks
    → woven (first + length entries) (reverse entries) (reverse marks) ≡ woven (first + count + length kept) (reverse kept) (reverse behind) ++ t.gone
taken_parts first count entries kept marks behind t e f = grind arith

pub within_kept : (first count : ℕ) (entries kept : List Entry) (marks behind : List PlacedMark) → count ≤ length entries
    → kept ≡ drop count entries → behind ≡ filter (is_after_entries (first + count)) marks
    → AreWithin (first + length entries) (reverse marks) → AreWithin (first + count + length kept) (reverse behind)
within_kept first count entries kept marks behind within e f marked = grind (arith, length-drop, turned, filter-reverse, within_filter)

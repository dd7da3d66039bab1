-- What a trim leaves of a marked journal, and of the bits that it gives.
use Rattle.std.proofs.Common.{◌≡◌, ◌⊎◌, ℕ, ◌==◌, ◌&&◌, ◌||◌, Bool, true, false, cond, [], ◌∷◌, ◌++◌, Option, Some, None, IfSome, if◌then◌else◌, refl, sym, ◌∙◌, ap, subst, inl, inr, arith}
use Rattle.std.proofs.lemmas.Bool.{eqb-true, or_parts}
use Rattle.std.specs.List.{list_any}
use Rattle.std.proofs.lemmas.Option.{same_Some}
use Rattle.std.proofs.Math.Bool.{and-false}
use Rattle.sd_pagetable.proofs.LawTests.{writable_more}
use Rattle.sd_pagetable.specs.Contents.{Contents, page_at, plain_of}
use Rattle.sd_pagetable.specs.Law.{PlainLaw}
use Rattle.sd_pagetable.specs.Order.{is_above}
use Rattle.sd_pagetable.specs.Page.{PageState}
use Rattle.sd_pagetable.specs.Tracking.{clears, is_page, is_writable, makes_writable, touches, write_protects}
use Rattle.sd_journal.specs.declared.entry.Entry.{Entry}
use Rattle.sd_journal.specs.declared.entry.Entry.TheVariants.{Applied, Freeze, Acked, Cancelled, Reopened}
use Rattle.sd_journal.specs.declared.mark.Mark.{Mark}
use Rattle.sd_journal.specs.declared.mark.Mark.TheVariants.{Start, Visit, Table}
use Rattle.sd_journal.specs.History.{Base, memory_after}
use Rattle.sd_journal.specs.Legal.{IsLegal}
use Rattle.sd_journal.specs.Marked.{Item, Told, Noted, Marked, entries_of, events_of, must_dump, is_mapped, is_of, is_visit, is_visited, item_event, last_visit, memory_at, starts, stays_mapped, visiting, IsMarked, HasVisitedMapped, IsTracked, MayBeNoted}
use Rattle.sd_journal.specs.Trimming.{Ends, HasVisited, IsFolded, base_after}
use Rattle.sd_journal.proofs.BitLemmas.{due_by, due_more}
use Rattle.sd_journal.proofs.HistoryLemmas.{none_is_some}
use Rattle.sd_journal.proofs.MappedLemmas.{was_mapped}
use Rattle.sd_journal.proofs.MarkedLemmas.{legal, never, no_visit}
use Rattle.sd_journal.proofs.TrimLemmas as trim

pub entries_after : (kept folded : Marked) → entries_of (kept ++ folded) ≡ entries_of kept ++ entries_of folded
entries_after [] folded = refl
entries_after (Told entry ∷ kept) folded = ap (λ rest. entry ∷ rest) (entries_after kept folded)
entries_after (Noted mark ∷ kept) folded = entries_after kept folded

pub memory_behind : (base : Base) (kept folded : Marked) (n : ℕ) → memory_at (base_after base n (entries_of folded)) kept ≡ memory_at base (kept ++ folded)
memory_behind base kept folded n = trim.memory base (entries_of kept) (entries_of folded) n ∙ ap (memory_after base) (sym (entries_after kept folded))

-- ---- marks

ended_visits : (n : ℕ) (entry : Entry) (earlier : Marked) → Ends n (entries_of earlier) entry → visiting (Told entry ∷ earlier) ≡ None
ended_visits n entry earlier ends = grind arith

visiting_folded : (n : ℕ) (folded : Marked) → IsFolded n folded → visiting folded ≡ None
visiting_folded n folded f = grind arith

pub visiting_stays : (kept folded : Marked) (n : ℕ) → IsFolded n folded → visiting kept ≡ visiting (kept ++ folded)
visiting_stays [] folded n f = sym (visiting_folded n folded f)
visiting_stays (Told (Applied seat command reply) ∷ kept) folded n f = visiting_stays kept folded n f
visiting_stays (Told (Freeze m) ∷ kept) folded n f = visiting_stays kept folded n f
visiting_stays (Told (Acked m) ∷ kept) folded n f = refl
visiting_stays (Told (Cancelled m) ∷ kept) folded n f = refl
visiting_stays (Told (Reopened m) ∷ kept) folded n f = refl
visiting_stays (Noted (Start serial) ∷ kept) folded n f = refl
visiting_stays (Noted (Visit serial space page) ∷ kept) folded n f = visiting_stays kept folded n f
visiting_stays (Noted (Table serial) ∷ kept) folded n f = refl

any_left : (test : Item → Bool) (one other : Marked) → list_any test (one ++ other) ≡ false → list_any test one ≡ false
any_left test [] other e = refl
any_left test (item ∷ one) other e = none (test item) (list_any test one) ((or_parts (test item) (list_any test (one ++ other)) e).0)
    (any_left test one other ((or_parts (test item) (list_any test (one ++ other)) e).1))
  where
    none : (a b : Bool) → a ≡ false → b ≡ false → (a || b) ≡ false
    none true b e f = e
    none false b e f = f

any_right : (test : Item → Bool) (one other : Marked) → list_any test (one ++ other) ≡ false → list_any test other ≡ false
any_right test [] other e = e
any_right test (item ∷ one) other e = any_right test one other ((or_parts (test item) (list_any test (one ++ other)) e).1)

any_same : (test : Item → Bool) (one other : Marked) → list_any test other ≡ false → list_any test (one ++ other) ≡ list_any test one
any_same test [] other e = e
any_same test (item ∷ one) other e = ap (λ b. test item || b) (any_same test one other e)

-- the image that visits pages has no mark in what is folded
fresh : (base : Base) (kept folded : Marked) (serial : ℕ) → IsMarked base (kept ++ folded) → visiting kept ≡ Some serial → list_any (is_of serial) folded ≡ false
fresh base [] folded serial marked e = none_is_some serial e
fresh base (Told (Applied seat command reply) ∷ kept) folded serial marked e = fresh base kept folded serial marked.1 e
fresh base (Told (Freeze m) ∷ kept) folded serial marked e = fresh base kept folded serial marked.1 e
fresh base (Told (Acked m) ∷ kept) folded serial marked e = none_is_some serial e
fresh base (Told (Cancelled m) ∷ kept) folded serial marked e = none_is_some serial e
fresh base (Told (Reopened m) ∷ kept) folded serial marked e = none_is_some serial e
fresh base (Noted (Start s) ∷ kept) folded serial marked e =
    subst (λ k. list_any (is_of k) folded ≡ false) (same_Some s serial e) (any_right (is_of s) kept folded marked.0)
fresh base (Noted (Visit s space page) ∷ kept) folded serial marked e = fresh base kept folded serial marked.1 e
fresh base (Noted (Table s) ∷ kept) folded serial marked e = none_is_some serial e

-- by its start
pub started_fresh : (base : Base) (kept folded : Marked) (serial : ℕ) → IsMarked base (kept ++ folded) → list_any (starts serial) kept ≡ true
    → list_any (is_of serial) folded ≡ false
started_fresh base [] folded serial marked is = absurd (let no : false ≡ true = is in cc)
started_fresh base (Told entry ∷ kept) folded serial marked is = started_fresh base kept folded serial marked.1 is
started_fresh base (Noted (Visit s space page) ∷ kept) folded serial marked is = started_fresh base kept folded serial marked.1 is
started_fresh base (Noted (Table s) ∷ kept) folded serial marked is = started_fresh base kept folded serial marked.1 is
started_fresh base (Noted (Start s) ∷ kept) folded serial marked is = by (s == serial) refl is (started_fresh base kept folded serial marked.1)
  where
    by : (b : Bool) → (s == serial) ≡ b → (b || list_any (starts serial) kept) ≡ true
        → (list_any (starts serial) kept ≡ true → list_any (is_of serial) folded ≡ false) → list_any (is_of serial) folded ≡ false
    by true same e rest = subst (λ k. list_any (is_of k) folded ≡ false) (eqb-true s serial same) (any_right (is_of s) kept folded marked.0)
    by false other e rest = rest e

cursor_behind : (kept folded : Marked) (serial : ℕ) → list_any (is_of serial) folded ≡ false → last_visit kept serial ≡ last_visit (kept ++ folded) serial
cursor_behind [] folded serial none = sym (no_visit folded serial none)
cursor_behind (Told entry ∷ kept) folded serial none = cursor_behind kept folded serial none
cursor_behind (Noted (Start s) ∷ kept) folded serial none = cursor_behind kept folded serial none
cursor_behind (Noted (Visit s space page) ∷ kept) folded serial none =
    ap (λ o. if s == serial then Some (space, page) else o) (cursor_behind kept folded serial none)
cursor_behind (Noted (Table s) ∷ kept) folded serial none = cursor_behind kept folded serial none

pub cursor_stays : (base : Base) (kept folded : Marked) (n serial : ℕ) → IsMarked base (kept ++ folded) → IsFolded n folded
    → visiting kept ≡ Some serial → last_visit kept serial ≡ last_visit (kept ++ folded) serial
cursor_stays base kept folded n serial marked f e = cursor_behind kept folded serial (fresh base kept folded serial marked e)

no_visits : (folded : Marked) (serial space page : ℕ) → list_any (is_of serial) folded ≡ false → is_visited folded serial space page ≡ false
no_visits [] serial space page e = refl
no_visits (Told entry ∷ earlier) serial space page e = no_visits earlier serial space page e
no_visits (Noted (Start s) ∷ earlier) serial space page e = no_visits earlier serial space page ((or_parts (s == serial) (list_any (is_of serial) earlier) e).1)
no_visits (Noted (Visit s at number) ∷ earlier) serial space page e =
    ap (λ b. (b && is_page at number space page) || is_visited earlier serial space page) ((or_parts (s == serial) (list_any (is_of serial) earlier) e).0)
    ∙ no_visits earlier serial space page ((or_parts (s == serial) (list_any (is_of serial) earlier) e).1)
no_visits (Noted (Table s) ∷ earlier) serial space page e = no_visits earlier serial space page ((or_parts (s == serial) (list_any (is_of serial) earlier) e).1)

visited_behind : (kept folded : Marked) (serial space page : ℕ) → list_any (is_of serial) folded ≡ false
    → is_visited (kept ++ folded) serial space page ≡ is_visited kept serial space page
visited_behind kept folded serial space page none = any_same (is_visit serial space page) kept folded (no_visits folded serial space page none)

-- no page stays mapped since a start that isn't there
never_stays : (base : Base) (folded : Marked) (serial space page : ℕ) → list_any (is_of serial) folded ≡ false → stays_mapped base folded serial space page ≡ false
never_stays base [] serial space page e = refl
never_stays base (Told entry ∷ earlier) serial space page e =
    ap (λ b. is_mapped (memory_at base (Told entry ∷ earlier)) space page && b) (never_stays base earlier serial space page e)
    ∙ and-false (is_mapped (memory_at base (Told entry ∷ earlier)) space page)
never_stays base (Noted (Start s) ∷ earlier) serial space page e =
    ap (λ b. is_mapped (memory_at base earlier) space page && (b || stays_mapped base earlier serial space page)) ((or_parts (s == serial) (list_any (is_of serial) earlier) e).0)
    ∙ ap (λ b. is_mapped (memory_at base earlier) space page && b) (never_stays base earlier serial space page ((or_parts (s == serial) (list_any (is_of serial) earlier) e).1))
    ∙ and-false (is_mapped (memory_at base earlier) space page)
never_stays base (Noted (Visit s at number) ∷ earlier) serial space page e =
    ap (λ b. is_mapped (memory_at base earlier) space page && b) (never_stays base earlier serial space page ((or_parts (s == serial) (list_any (is_of serial) earlier) e).1))
    ∙ and-false (is_mapped (memory_at base earlier) space page)
never_stays base (Noted (Table s) ∷ earlier) serial space page e =
    ap (λ b. is_mapped (memory_at base earlier) space page && b) (never_stays base earlier serial space page ((or_parts (s == serial) (list_any (is_of serial) earlier) e).1))
    ∙ and-false (is_mapped (memory_at base earlier) space page)

stays_behind : (base : Base) (kept folded : Marked) (n serial space page : ℕ) → list_any (is_of serial) folded ≡ false
    → stays_mapped (base_after base n (entries_of folded)) kept serial space page ≡ stays_mapped base (kept ++ folded) serial space page
stays_behind base [] folded n serial space page none = sym (never_stays base folded serial space page none)
stays_behind base (item ∷ kept) folded n serial space page none =
    ap (λ m. is_mapped m space page && (starts serial item || stays_mapped (base_after base n (entries_of folded)) kept serial space page)) (memory_behind base (item ∷ kept) folded n)
    ∙ ap (λ b. is_mapped (memory_at base (item ∷ kept ++ folded)) space page && (starts serial item || b)) (stays_behind base kept folded n serial space page none)

noted : (base : Base) (kept folded : Marked) (n : ℕ) (mark : Mark) → IsMarked base (kept ++ folded) → IsFolded n folded → MayBeNoted base (kept ++ folded) mark
    → MayBeNoted (base_after base n (entries_of folded)) kept mark
noted base kept folded n (Start serial) marked f may = any_left (is_of serial) kept folded may
noted base kept folded n (Visit serial space page) marked f may =
    let now : visiting kept ≡ Some serial = visiting_stays kept folded n f ∙ may.0 in (
      now,
      ap (λ m. is_mapped m space page) (memory_behind base kept folded n) ∙ may.1,
      ap (λ o. is_above o space page) (cursor_stays base kept folded n serial marked f now) ∙ may.2,
    )
noted base kept folded n (Table serial) marked f may =
    let now : visiting kept ≡ Some serial = visiting_stays kept folded n f ∙ may.0 in
    let none = fresh base kept folded serial marked now in (
      now,
      λ space page stays.
          sym (visited_behind kept folded serial space page none) ∙ may.1 space page (sym (stays_behind base kept folded n serial space page none) ∙ stays),
    )

pub marked : (base : Base) (kept folded : Marked) (n : ℕ) → IsMarked base (kept ++ folded) → IsFolded n folded → IsMarked (base_after base n (entries_of folded)) kept
marked base [] folded n was f = tt
marked base (Told entry ∷ kept) folded n was f =
    let all : IsLegal base (entry ∷ entries_of kept ++ entries_of folded) =
    subst (λ h. IsLegal base (entry ∷ h)) (entries_after kept folded) (legal base (Told entry ∷ kept ++ folded) was) in
    ((trim.legal base (entry ∷ entries_of kept) (entries_of folded) n all f.ended).0, marked base kept folded n was.1 f)
marked base (Noted mark ∷ kept) folded n was f = (noted base kept folded n mark was.1 f was.0, marked base kept folded n was.1 f)

-- ---- bits

-- a page that is mapped after an item was mapped before, or the item made it
was_there : (base : Base) (item : Item) (items : Marked) (space page : ℕ) → is_mapped (memory_at base (item ∷ items)) space page ≡ true
    → (is_mapped (memory_at base items) space page ≡ true)
    ⊎ ((touches space page (item_event item) ≡ true) × (write_protects space page (item_event item) ≡ true))
was_there base item items space page mapped = grind (arith, was_mapped)

pub must_dump_stays : (base : Base) (kept folded : Marked) (n space page : ℕ) → IsFolded n folded → HasVisited base folded
    → is_mapped (memory_at base (kept ++ folded)) space page ≡ true
    → must_dump (base_after base n (entries_of folded)) kept space page ≡ must_dump base (kept ++ folded) space page
must_dump_stays base [] folded n space page f visited mapped = sym (visited.clean space page mapped)
must_dump_stays base (item ∷ kept) folded n space page f visited mapped =
    due_more (base_after base n (entries_of folded)) item kept space page
    ∙ elim (was_there base item (kept ++ folded) space page mapped) [
      | inl was ↦ ap (due_by (item_event item) space page) (must_dump_stays base kept folded n space page f visited was)
      | inr made ↦ touched (clears space page (item_event item)) (touches space page (item_event item))
          (must_dump (base_after base n (entries_of folded)) kept space page) (must_dump base (kept ++ folded) space page) made.0
    ]
    ∙ sym (due_more base item (kept ++ folded) space page)
  where
    touched : (c t a b : Bool) → t ≡ true → cond c false (t || a) ≡ cond c false (t || b)
    touched true t a b e = refl
    touched false true a b e = refl
    touched false false a b e = never (sym e)

writable_stays : (base : Base) (kept folded : Marked) (n space page : ℕ) → HasVisited base folded
    → is_mapped (memory_at base (kept ++ folded)) space page ≡ true
    → is_writable (events_of kept) space page ≡ is_writable (events_of (kept ++ folded)) space page
writable_stays base [] folded n space page visited mapped = sym (visited.protected space page mapped)
writable_stays base (item ∷ kept) folded n space page visited mapped =
    writable_more (item_event item) (events_of kept) space page
    ∙ elim (was_there base item (kept ++ folded) space page mapped) [
      | inl was ↦
          ap (λ b. cond (write_protects space page (item_event item)) false (makes_writable space page (item_event item) || b))
          (writable_stays base kept folded n space page visited was)
      | inr made ↦ closed (write_protects space page (item_event item)) (makes_writable space page (item_event item))
          (is_writable (events_of kept) space page) (is_writable (events_of (kept ++ folded)) space page) made.1
    ]
    ∙ sym (writable_more (item_event item) (events_of (kept ++ folded)) space page)
  where
    closed : (c t a b : Bool) → c ≡ true → cond c false (t || a) ≡ cond c false (t || b)
    closed true t a b e = refl
    closed false t a b e = never (sym e)

-- ---- the memory

mapped_at : PlainLaw → (base : Base) (items : Marked) (contents : Contents) (space number : ℕ) (page : PageState) → plain_of contents ≡ memory_at base items
    → page_at contents space number ≡ Some page → is_mapped (memory_at base items) space number ≡ true
mapped_at plain base items contents space number page memory there = grind arith

swept_behind : (base : Base) (kept folded : Marked) (n serial : ℕ) → list_any (is_of serial) folded ≡ false → HasVisitedMapped base (kept ++ folded) serial
    → HasVisitedMapped (base_after base n (entries_of folded)) kept serial
swept_behind base kept folded n serial none swept space page above stays =
    sym (visited_behind kept folded serial space page none)
    ∙ swept space page (ap (λ o. is_above o space page) (sym (cursor_behind kept folded serial none)) ∙ above)
    (sym (stays_behind base kept folded n serial space page none) ∙ stays)

pub tracked : PlainLaw → (base : Base) (kept folded : Marked) (contents : Contents) (n : ℕ) → IsTracked base (kept ++ folded) contents
    → IsFolded n folded → HasVisited base folded → IsTracked (base_after base n (entries_of folded)) kept contents
tracked plain base kept folded contents n was f visited = record {
  marked = marked base kept folded n was.marked f;
  memory = was.memory ∙ sym (memory_behind base kept folded n);
  bits = record {
    soft_dirty = λ space number page there. was.bits.soft_dirty space number page there
        ∙ sym (must_dump_stays base kept folded n space number f visited (mapped_at plain base (kept ++ folded) contents space number page was.memory there));
    writable = λ space number page there. was.bits.writable space number page there
        ∙ sym (writable_stays base kept folded n space number visited (mapped_at plain base (kept ++ folded) contents space number page was.memory there));
  };
  swept = by (visiting kept) refl (subst (λ o. IfSome o (λ serial. HasVisitedMapped base (kept ++ folded) serial)) (sym (visiting_stays kept folded n f)) was.swept);
}
  where
    by : (o : Option ℕ) → visiting kept ≡ o → IfSome o (λ serial. HasVisitedMapped base (kept ++ folded) serial)
        → IfSome o (λ serial. HasVisitedMapped (base_after base n (entries_of folded)) kept serial)
    by None e swept = tt
    by (Some serial) e swept = swept_behind base kept folded n serial (fresh base kept folded serial was.marked e) swept

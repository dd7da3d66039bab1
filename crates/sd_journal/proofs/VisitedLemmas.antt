-- A page that was visited since a freeze is clean as long as that is pending.
use Rattle.std.proofs.Common.{◌≡◌, ℕ, ◌==◌, Bool, true, false, cond, if◌then◌else◌, [], ◌∷◌, Some, is_some, refl, sym, ◌∙◌, ap, subst, inl, arith}
use Rattle.std.proofs.lemmas.Option.{same_Some}
use Rattle.sd_pagetable.proofs.LawTests.{writable_more}
use Rattle.sd_pagetable.specs.Tracking.{Passed, clears, is_page, is_writable}
use Rattle.sd_command.specs.declared.refusal.Refusal.TheVariants.{Frozen}
use Rattle.sd_command.specs.declared.reply.Reply.TheVariants.{Refused}
use Rattle.sd_command.specs.Events.{event_of}
use Rattle.sd_command.specs.Replies.{IsLegalReply}
use Rattle.sd_journal.specs.declared.entry.Entry.{Entry}
use Rattle.sd_journal.specs.declared.entry.Entry.TheVariants.{Applied, Freeze, Acked, Cancelled, Reopened}
use Rattle.sd_journal.specs.declared.mark.Mark.TheVariants.{Start, Visit, Table}
use Rattle.sd_journal.specs.History.{Base, pending}
use Rattle.sd_journal.specs.Marked.{Item, Told, Noted, Marked, entries_of, events_of, must_dump, is_mapped, item_event, memory_at, IsMarked}
use Rattle.sd_journal.specs.TrackedLaws.{visited_since}
use Rattle.sd_journal.specs.Trimming.{Ends, HasVisited, IsEnded, IsFolded}
use Rattle.sd_journal.proofs.AllowedLemmas.{none_left}
use Rattle.sd_journal.proofs.BitLemmas.{due_more, due_passes, writable_passes}
use Rattle.sd_journal.proofs.HistoryLemmas.{none_is_some, same}
use Rattle.sd_journal.proofs.MarkedLemmas.{frozen_passes, never}

-- the page need not be dumped, and is not writable
abbrev IsClean : Base → Marked → ℕ → ℕ → Type 0
IsClean base items space page = (must_dump base items space page ≡ false) × (is_writable (events_of items) space page ≡ false)

passes : (base : Base) (item : Item) (items : Marked) (space page : ℕ) → item_event item ≡ Passed → IsClean base items space page → IsClean base (item ∷ items) space page
passes base item items space page e clean =
    (due_passes base item items space page e ∙ clean.0, writable_passes item items space page e ∙ clean.1)

visited_rest : (event : Bool) (rest : Bool) → event ≡ false → cond event true rest ≡ true → rest ≡ true
visited_rest event rest e v = grind arith

clean_since : (base : Base) (items : Marked) (n space page : ℕ) → IsMarked base items → pending (entries_of items) ≡ Some n → visited_since items n space page ≡ true
    → IsClean base items space page
clean_since base [] n space page marked is visited = none_is_some n is
clean_since base (Told (Applied seat command reply) ∷ earlier) n space page marked is visited =
    let legal : IsLegalReply (memory_at base earlier) (is_some (Some n)) command reply =
    subst (λ o. IsLegalReply (memory_at base earlier) (is_some o) command reply) is marked.0 in
    let refused : reply ≡ Refused Frozen = legal in
    let by : event_of command reply ≡ Passed = ap (event_of command) refused ∙ frozen_passes command in
    passes base (Told (Applied seat command reply)) earlier space page by
    (clean_since base earlier n space page marked.1 is
    (visited_rest (clears space page (event_of command reply)) (visited_since earlier n space page) (ap (clears space page) by) visited))
clean_since base (Told (Freeze m) ∷ earlier) n space page marked is visited =
    let own : (m == n) ≡ true = ap (λ k. k == n) (same_Some m n is) ∙ same n in
    never (sym (sym (ap (λ b. if b then false else (if clears space page Passed then true else visited_since earlier n space page)) own) ∙ visited))
clean_since base (Told (Acked m) ∷ earlier) n space page marked is visited = none_left base (entries_of earlier) m n (inl marked.0) is
clean_since base (Told (Cancelled m) ∷ earlier) n space page marked is visited = none_left base (entries_of earlier) m n marked.0 is
clean_since base (Told (Reopened m) ∷ earlier) n space page marked is visited = none_is_some n is
clean_since base (Noted (Start s) ∷ earlier) n space page marked is visited =
    passes base (Noted (Start s)) earlier space page refl (clean_since base earlier n space page marked.1 is visited)
clean_since base (Noted (Table s) ∷ earlier) n space page marked is visited =
    passes base (Noted (Table s)) earlier space page refl (clean_since base earlier n space page marked.1 is visited)
clean_since base (Noted (Visit s at number) ∷ earlier) n space page marked is visited = by (is_page at number space page) refl
    (λ other. clean_since base earlier n space page marked.1 is (visited_rest (is_page at number space page) (visited_since earlier n space page) other visited))
  where
    due : must_dump base (Noted (Visit s at number) ∷ earlier) space page ≡ cond (is_page at number space page) false (must_dump base earlier space page)
    due = due_more base (Noted (Visit s at number)) earlier space page

    may_write : is_writable (events_of (Noted (Visit s at number) ∷ earlier)) space page ≡ cond (is_page at number space page) false (is_writable (events_of earlier) space page)
    may_write = writable_more (item_event (Noted (Visit s at number))) (events_of earlier) space page

    by : (b : Bool) → is_page at number space page ≡ b → (is_page at number space page ≡ false → IsClean base earlier space page)
        → IsClean base (Noted (Visit s at number) ∷ earlier) space page
    by b e rest = grind arith

clean_end : (base : Base) (before : Marked) (n space page : ℕ) (entry : Entry) → IsMarked base before → Ends n (entries_of before) entry
    → visited_since (Told entry ∷ before) n space page ≡ true → IsClean base (Told entry ∷ before) space page
clean_end base before n space page (Acked m) marked ends visited =
    passes base (Told (Acked m)) before space page refl (clean_since base before n space page marked ends.1 visited)
clean_end base before n space page (Reopened m) marked ends visited =
    passes base (Told (Reopened m)) before space page refl (clean_since base before n space page marked ends.1 visited)
clean_end base before n space page _ marked ends visited = absurd ends

clean_folded : (base : Base) (folded : Marked) (n space page : ℕ) (entry : Entry) (before : Marked) → folded ≡ Told entry ∷ before → IsMarked base folded
    → IsEnded n (entries_of folded) → visited_since folded n space page ≡ true → IsClean base folded space page
clean_folded base folded n space page entry before is marked ended visited =
    let m : IsMarked base (Told entry ∷ before) = subst (IsMarked base) is marked in
    let e : IsEnded n (entry ∷ entries_of before) = subst (λ items. IsEnded n (entries_of items)) is ended in
    let v : visited_since (Told entry ∷ before) n space page ≡ true = ap (λ items. visited_since items n space page) (sym is) ∙ visited in
    subst (λ items. IsClean base items space page) (sym is) (clean_end base before n space page entry m.1 e v)

pub visited : (base : Base) (folded : Marked) (n : ℕ) → IsMarked base folded → IsFolded n folded
    → ((space page : ℕ) → is_mapped (memory_at base folded) space page ≡ true → visited_since folded n space page ≡ true) → HasVisited base folded
visited base folded n marked f all = record {
  clean = λ space page mapped. (clean_folded base folded n space page f.newest.0 f.newest.1 f.newest.2 marked f.ended (all space page mapped)).0;
  protected = λ space page mapped. (clean_folded base folded n space page f.newest.0 f.newest.1 f.newest.2 marked f.ended (all space page mapped)).1;
}

-- The soft-dirty and the writable bits by one item more.
use Rattle.std.proofs.Common.{◌≡◌, ℕ, Bool, true, false, not, cond, ◌||◌, if◌then◌else◌, [], List, ◌∷◌, Option, Some, refl, sym, ◌∙◌, ap, arith, inl, inr}
use Rattle.std.proofs.lemmas.Bool.Decides.{nat_tests}
use Rattle.std.specs.List.{list_any}
use Rattle.std.specs.Option.{option_map}
use Rattle.sd_pagetable.proofs.LawTests.{writable_more, dirty_more}
use Rattle.sd_pagetable.specs.Contents.{Contents, IsSound, page_at}
use Rattle.sd_pagetable.specs.Law.{ClearLaw, IsClearedAt}
use Rattle.sd_pagetable.specs.Page.{PageState, cleared_page}
use Rattle.sd_pagetable.specs.PageLaw.{PageLaw}
use Rattle.sd_pagetable.specs.Tracking.{MemoryEvent, Cleared, Passed, IsBeginning, Step, clears, is_dirty, is_page, is_writable, makes_writable, since, touches, write_protects}
use Rattle.sd_journal.specs.declared.origin.Origin.TheVariants.{Opened}
use Rattle.sd_journal.specs.History.{Base}
use Rattle.sd_journal.specs.Marked.{HasBits, Item, Marked, events_of, must_dump, is_opened, item_event}

-- ---- histories by one event more

any_by : (stop test : Bool) (rest : List MemoryEvent) (event : MemoryEvent) (tests : MemoryEvent → Bool) → tests event ≡ test
    → list_any tests (cond (not stop) (event ∷ rest) []) ≡ cond stop false (test || list_any tests rest)
any_by stop test rest event tests e = grind arith

any_since : (tests stops : MemoryEvent → Bool) (event : MemoryEvent) (history : List MemoryEvent)
    → list_any tests (since stops (event ∷ history)) ≡ cond (stops event) false (tests event || list_any tests (since stops history))
any_since tests stops event history = grind arith

dirty_by : (clear touch before any : Bool) → (cond clear false (touch || before) || not (clear || any)) ≡ cond clear false (touch || (before || not any))
dirty_by clear touch before any = grind arith

-- ---- what must be dumped

-- an event clears the page, or touches it, or leaves it as it was
abbrev pub due_by : MemoryEvent → ℕ → ℕ → Bool → Bool
due_by event space page before = cond (clears space page event) false (touches space page event || before)

pub due_more : (base : Base) (item : Item) (items : Marked) (space page : ℕ) → must_dump base (item ∷ items) space page ≡ due_by (item_event item) space page (must_dump base items space page)
due_more base item items space page = by (is_opened base.origin)
  where
    by : (b : Bool) → (if b then is_dirty (events_of (item ∷ items)) space page else list_any (touches space page) (since (clears space page) (events_of (item ∷ items))))
        ≡ due_by (item_event item) space page (if b then is_dirty (events_of items) space page else list_any (touches space page) (since (clears space page) (events_of items)))
    by true = dirty_more (item_event item) (events_of items) space page
    by false = any_since (touches space page) (clears space page) (item_event item) (events_of items)

pub due_passes : (base : Base) (item : Item) (items : Marked) (space page : ℕ) → item_event item ≡ Passed → must_dump base (item ∷ items) space page ≡ must_dump base items space page
due_passes base item items space page e = due_more base item items space page ∙ ap (λ event. due_by event space page (must_dump base items space page)) e

pub writable_passes : (item : Item) (items : Marked) (space page : ℕ) → item_event item ≡ Passed → is_writable (events_of (item ∷ items)) space page ≡ is_writable (events_of items) space page
writable_passes item items space page e = grind arith

-- ---- bits

pub bits_begin : (base : Base) (contents : Contents) → base.origin ≡ Opened → IsBeginning contents → HasBits base [] contents
bits_begin base contents opened begins = grind arith

pub bits_pass : (base : Base) (item : Item) (items : Marked) (contents : Contents) → item_event item ≡ Passed → HasBits base items contents → HasBits base (item ∷ items) contents
bits_pass base item items contents e bits = grind arith

pub bits_step : PageLaw → (base : Base) (item : Item) (items : Marked) (old new : Contents) → IsSound old → Step old (item_event item) new
    → HasBits base items old → HasBits base (item ∷ items) new
bits_step law base item items old new sound step bits = record {
  soft_dirty = λ space number page there. elim (law old new (item_event item) space number page sound step there) [
    | inl was ↦
        was.2.soft_dirty
        ∙ ap (λ b. due_by (item_event item) space number b) (bits.soft_dirty space number was.0 was.1)
        ∙ sym (due_more base item items space number)
    | inr made ↦
        made.soft_dirty
        ∙ sym (due_more base item items space number
        ∙ ap (λ c. cond c false (touches space number (item_event item) || must_dump base items space number)) made.uncleared
        ∙ ap (λ t. t || must_dump base items space number) made.touched)
  ];
  writable = λ space number page there. elim (law old new (item_event item) space number page sound step there) [
    | inl was ↦
        was.2.writable
        ∙ ap (λ b. cond (write_protects space number (item_event item)) false (makes_writable space number (item_event item) || b)) (bits.writable space number was.0 was.1)
        ∙ sym (writable_more (item_event item) (events_of items) space number)
    | inr made ↦
        made.writable
        ∙ sym (writable_more (item_event item) (events_of items) space number
        ∙ ap (λ c. cond c false (makes_writable space number (item_event item) || is_writable (events_of items) space number)) made.protected)
  ];
}

cleared_from : (o : Option PageState) (page : PageState) → option_map cleared_page o ≡ Some page → (page.soft_dirty ≡ false) × (page.writable ≡ false)
cleared_from o page e = grind arith

same_space : (s p space page : ℕ) → is_page s p space page ≡ true → s ≡ space
same_space s p space page e = grind (arith, nat_tests)

same_number : (s p space page : ℕ) → is_page s p space page ≡ true → p ≡ page
same_number s p space page e = grind (arith, nat_tests)

pub bits_clear : ClearLaw → (base : Base) (item : Item) (items : Marked) (old new : Contents) (s p : ℕ) → item_event item ≡ Cleared s p → Step old (Cleared s p) new
    → HasBits base items old → HasBits base (item ∷ items) new
bits_clear law base item items old new s p e step bits = record {
  soft_dirty = λ space number page there. dirty space number page there (is_page s p space number) refl;
  writable = λ space number page there. writing space number page there (is_page s p space number) refl;
}
  where
    cleared : IsClearedAt s p old new
    cleared = law old new s p step

    here : (space number : ℕ) (page : PageState) → page_at new space number ≡ Some page → is_page s p space number ≡ true → (page.soft_dirty ≡ false) × (page.writable ≡ false)
    here space number page there same =
        let at : page_at new s p ≡ Some page =
        ap (λ n. page_at new n p) (same_space s p space number same) ∙ ap (page_at new space) (same_number s p space number same) ∙ there in
        cleared_from (page_at old s p) page (sym cleared.here ∙ at)

    due : (space number : ℕ) → must_dump base (item ∷ items) space number ≡ cond (is_page s p space number) false (must_dump base items space number)
    due space number = due_more base item items space number ∙ ap (λ event. due_by event space number (must_dump base items space number)) e

    may_write : (space number : ℕ) → is_writable (events_of (item ∷ items)) space number ≡ cond (is_page s p space number) false (is_writable (events_of items) space number)
    may_write space number = grind arith

    dirty : (space number : ℕ) (page : PageState) → page_at new space number ≡ Some page → (b : Bool) → is_page s p space number ≡ b
        → page.soft_dirty ≡ must_dump base (item ∷ items) space number
    dirty space number page there true same =
        (here space number page there same).0 ∙ sym (due space number ∙ ap (λ b. cond b false (must_dump base items space number)) same)
    dirty space number page there false other =
        bits.soft_dirty space number page (sym (cleared.others space number other) ∙ there)
        ∙ sym (due space number ∙ ap (λ b. cond b false (must_dump base items space number)) other)

    writing : (space number : ℕ) (page : PageState) → page_at new space number ≡ Some page → (b : Bool) → is_page s p space number ≡ b
        → page.writable ≡ is_writable (events_of (item ∷ items)) space number
    writing space number page there true same =
        (here space number page there same).1 ∙ sym (may_write space number ∙ ap (λ b. cond b false (is_writable (events_of items) space number)) same)
    writing space number page there false other =
        bits.writable space number page (sym (cleared.others space number other) ∙ there)
        ∙ sym (may_write space number ∙ ap (λ b. cond b false (is_writable (events_of items) space number)) other)

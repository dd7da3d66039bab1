-- What an event makes of the bits of one page.
use Rattle.std.proofs.Common.{◌≡◌, ℕ, Bool, true, false, cond, nat_eq, ◌&&◌, ◌||◌, List, Option, Some, None, unwrap_or, refl, sym, ◌∙◌, ap, subst, inl, arith}
use Rattle.std.proofs.lemmas.Bool.Decides.{nat_tests}
use Rattle.std.specs.Option.{option_map}
use Rattle.std.specs.Ordering.{nat_cmp}
use Rattle.std.specs.FinMap as finmap
use Rattle.std.specs.FinMap.{get-empty}
use Rattle.std.proofs.lemmas.Option.{same_Some}
use Rattle.sd_areas.specs.declared.prot.Prot.{Prot}
use Rattle.sd_areas.specs.Pages.{is_within}
use Rattle.sd_pagetable.specs.Nested.{Table, Nested, map_values, inside, value_at}
use Rattle.sd_pagetable.specs.Page.{PageState, fresh_page, protected_page, shared_page, inherited_page, writable_page}
use Rattle.sd_pagetable.specs.Contents.{Contents, page_at, put_page}
use Rattle.sd_pagetable.specs.Tracking.{MemoryEvent, Mapped, Unmapped, Protected, Forked, Exited, Faulted, Tried, Stored, Cleared, Passed, Step, with_space, touches, clears, makes_writable, write_protects}
use Rattle.sd_pagetable.specs.PageLaw.{IsChangedBy, ComesFrom, PageLaw}
use Rattle.sd_pagetable.proofs.TableLemmas.{get_removed, get-map_values, get-set_within, get-remove_within, get-change_within}
use Rattle.sd_pagetable.proofs.NestedLemmas.{tests, value_at-insert, value_at-put}

pub turned : (a b : ℕ) → nat_eq a b ≡ nat_eq b a
turned a b = grind (arith, nat_tests)

-- a test that is both true and false
both_tests : (b : Bool) → b ≡ true → b ≡ false → ⊥
both_tests b t f = (let e : true ≡ false = sym t ∙ f in cc)

gone : {A : Type 0} (x : A) → None ≡ Some x → {B : Type 0} → B
gone x e = absurd (let f : None ≡ Some x = e in cc)

-- an event that does nothing to the page
abbrev IsIdle : MemoryEvent → ℕ → ℕ → Type 0
IsIdle event space number = (touches space number event ≡ false) × (clears space number event ≡ false) × (makes_writable space number event ≡ false) × (write_protects space number event ≡ false)

idle : (event : MemoryEvent) (space number : ℕ) (page : PageState) → IsIdle event space number → IsChangedBy event space number page page
idle event space number page is = grind arith

kept : (old : Contents) (event : MemoryEvent) (space number : ℕ) (after : PageState) → page_at old space number ≡ Some after → IsIdle event space number → ComesFrom old event space number after
kept old event space number after there is = inl (after, there, idle event space number after is)

-- what a space that has other pages has at a page
other : (old : Contents) (s space number : ℕ) (pages : Table PageState) → page_at (with_space old s pages) space number ≡ cond (nat_eq s space) (finmap.get pages number) (page_at old space number)
other old s space number pages = value_at-insert old.spaces s pages space number ∙ ap (λ b. cond b (finmap.get pages number) (page_at old space number)) (turned space s)

in_other : (s space number : ℕ) (nested : Nested PageState) → nat_eq s space ≡ true → finmap.get (inside nested s) number ≡ value_at nested space number
in_other s space number nested e = ap (λ k. finmap.get (inside nested k) number) (tests s space e)

-- `mmap`
mapped : (old : Contents) (s first count : ℕ) (prot : Prot) (space number : ℕ) (after : PageState) (here within : Bool) → nat_eq s space ≡ here → is_within first count number ≡ within
    → cond here (cond within (Some (fresh_page prot)) (finmap.get (inside old.spaces s) number)) (page_at old space number) ≡ Some after
    → ComesFrom old (Mapped s first count prot) space number after
mapped old s first count prot space number after here within e f is = grind arith

-- `munmap`
unmapped : (old : Contents) (s first count : ℕ) (space number : ℕ) (after : PageState) (here within : Bool) → nat_eq s space ≡ here → is_within first count number ≡ within
    → cond here (cond within None (finmap.get (inside old.spaces s) number)) (page_at old space number) ≡ Some after
    → ComesFrom old (Unmapped s first count) space number after
unmapped old s first count space number after here within e f is = grind arith

-- `mprotect`
pub changed : {A B : Type 0} (f : A → B) (o : Option A) (y : B) → option_map f o ≡ Some y → (x : A) × (o ≡ Some x) × (y ≡ f x)
changed f o y e = grind arith

protected : (old : Contents) (s first count : ℕ) (prot : Prot) (space number : ℕ) (after : PageState) (here within : Bool) → nat_eq s space ≡ here → is_within first count number ≡ within
    → cond here (option_map (λ (p : PageState). cond within (protected_page prot p) p) (finmap.get (inside old.spaces s) number)) (page_at old space number) ≡ Some after
    → ComesFrom old (Protected s first count prot) space number after
protected old s first count prot space number after here within e f is = grind arith

-- `fork`
forked_page : (old : Contents) (parent child : ℕ) (space number : ℕ) (after : PageState) (is_child is_parent : Bool) → nat_eq child space ≡ is_child → nat_eq parent space ≡ is_parent
    → cond is_child (option_map inherited_page (finmap.get (inside old.spaces parent) number))
    (cond is_parent (option_map shared_page (finmap.get (inside old.spaces parent) number)) (page_at old space number)) ≡ Some after
    → ComesFrom old (Forked parent child) space number after
forked_page old parent child space number after is_child is_parent e f is = grind arith

-- `exit`
exited : (old : Contents) (s : ℕ) (space number : ℕ) (after : PageState) (here : Bool) → nat_eq s space ≡ here
    → cond here None (page_at old space number) ≡ Some after → ComesFrom old (Exited s) space number after
exited old s space number after here e is = grind arith

-- a fault or a store
opened : (old : Contents) (s p : ℕ) (event : MemoryEvent) (bytes : List ℕ) (class : ℕ) (space number : ℕ) (before after : PageState) (here : Bool)
    → touches space number event ≡ (nat_eq s space && nat_eq p number) → makes_writable space number event ≡ (nat_eq s space && nat_eq p number)
    → clears space number event ≡ false → write_protects space number event ≡ false
    → page_at old s p ≡ Some before → (nat_eq s space && nat_eq p number) ≡ here
    → cond here (Some (writable_page before class bytes)) (page_at old space number) ≡ Some after → ComesFrom old event space number after
opened old s p event bytes class space number before after false t o c d there e is = kept old event space number after is (t ∙ e, c, o ∙ e, d)
opened old s p event bytes class space number before after true t o c d there e is =
    inl (
      before,
      at_page s p space number e ∙ there,
      record {
        soft_dirty = ap (λ (q : PageState). q.soft_dirty) (sym (same_Some _ _ is)) ∙ sym (ap (λ b. cond b false (touches space number event || before.soft_dirty)) c ∙ ap (λ b. b || before.soft_dirty) (t ∙ e));
        writable = ap (λ (q : PageState). q.writable) (sym (same_Some _ _ is)) ∙ sym (ap (λ b. cond b false (makes_writable space number event || before.writable)) d ∙ ap (λ b. b || before.writable) (o ∙ e));
        bytes = λ untouched. absurd (both_tests _ (t ∙ e) untouched);
      },
    )
  where
    left_of : (a b : Bool) → (a && b) ≡ true → a ≡ true
    left_of true b e = refl
    left_of false b e = e

    right_of : (a b : Bool) → (a && b) ≡ true → b ≡ true
    right_of a b e = grind arith

    at_page : (s p space number : ℕ) → (nat_eq s space && nat_eq p number) ≡ true → page_at old space number ≡ page_at old s p
    at_page s p space number e = grind arith

-- a store to a writable page, and a clear
replaced : (old : Contents) (s p : ℕ) (event : MemoryEvent) (space number : ℕ) (before page after : PageState) (here : Bool)
    → ((nat_eq s space && nat_eq p number) ≡ true → IsChangedBy event space number before page) → ((nat_eq s space && nat_eq p number) ≡ false → IsIdle event space number)
    → page_at old s p ≡ Some before → (nat_eq s space && nat_eq p number) ≡ here
    → cond here (Some page) (page_at old space number) ≡ Some after → ComesFrom old event space number after
replaced old s p event space number before page after false k i there e is = kept old event space number after is (i e)
replaced old s p event space number before page after true k i there e is =
    inl (before, at_page s p space number e ∙ there, subst (IsChangedBy event space number before) (same_Some _ _ is) (k e))
  where
    left_of : (a b : Bool) → (a && b) ≡ true → a ≡ true
    left_of true b e = refl
    left_of false b e = e

    right_of : (a b : Bool) → (a && b) ≡ true → b ≡ true
    right_of a b e = grind arith

    at_page : (s p space number : ℕ) → (nat_eq s space && nat_eq p number) ≡ true → page_at old space number ≡ page_at old s p
    at_page s p space number e = grind arith

put : (old : Contents) (s p : ℕ) (page : PageState) (space number : ℕ) → page_at (put_page old s p page) space number ≡ cond (nat_eq s space && nat_eq p number) (Some page) (page_at old space number)
put old s p page space number = grind (arith, value_at-put, turned)

-- where a page of a memory comes from, by the event that led there; before it, what is writable has to be soft-dirty
pub comes : (old new : Contents) (event : MemoryEvent) (space number : ℕ) (after : PageState)
    → ((s p : ℕ) (page : PageState) → page_at old s p ≡ Some page → page.writable ≡ true → page.soft_dirty ≡ true)
    → Step old event new → page_at new space number ≡ Some after → ComesFrom old event space number after
comes old new (Mapped s first count prot) space number after dirty step there =
    mapped old s first count prot space number after _ _ refl refl
    (sym (other old s space number _ ∙ ap (λ o. cond (nat_eq s space) o (page_at old space number)) (get-set_within (inside old.spaces s) first count (fresh_page prot) number))
    ∙ ap (λ c. page_at c space number) (sym step) ∙ there)
comes old new (Unmapped s first count) space number after dirty step there =
    unmapped old s first count space number after _ _ refl refl
    (sym (other old s space number _ ∙ ap (λ o. cond (nat_eq s space) o (page_at old space number)) (get-remove_within (inside old.spaces s) first count number))
    ∙ ap (λ c. page_at c space number) (sym step) ∙ there)
comes old new (Protected s first count prot) space number after dirty step there =
    protected old s first count prot space number after _ _ refl refl
    (sym (other old s space number _ ∙ ap (λ o. cond (nat_eq s space) o (page_at old space number)) (get-change_within (protected_page prot) (inside old.spaces s) first count number))
    ∙ ap (λ c. page_at c space number) (sym step) ∙ there)
comes old new (Forked parent child) space number after dirty step there =
    forked_page old parent child space number after _ _ refl refl
    (sym (other (with_space old parent (map_values shared_page (inside old.spaces parent))) child space number _
    ∙ ap (λ o. cond (nat_eq child space) o (page_at (with_space old parent (map_values shared_page (inside old.spaces parent))) space number)) (get-map_values inherited_page (inside old.spaces parent) number)
    ∙ ap (cond (nat_eq child space) (option_map inherited_page (finmap.get (inside old.spaces parent) number)))
    (other old parent space number _ ∙ ap (λ o. cond (nat_eq parent space) o (page_at old space number)) (get-map_values shared_page (inside old.spaces parent) number)))
    ∙ ap (λ c. page_at c space number) (sym step.2) ∙ there)
comes old new (Exited s) space number after dirty step there =
    exited old s space number after _ refl (sym (removed s space number) ∙ ap (λ c. page_at c space number) (sym step) ∙ there)
  where
    taken : (number : ℕ) (b : Bool) (o : Option (Table PageState)) → finmap.get (unwrap_or (cond b None o) finmap.empty) number ≡ cond b None (finmap.get (unwrap_or o finmap.empty) number)
    taken number true o = get-empty nat_cmp number
    taken number false o = refl

    removed : (s space number : ℕ) → page_at (record { pool = old.pool; spaces = finmap.remove old.spaces s }) space number ≡ cond (nat_eq s space) None (page_at old space number)
    removed s space number = ap (λ o. finmap.get (unwrap_or o finmap.empty) number) (get_removed old.spaces s space ∙ ap (λ b. cond b None (finmap.get old.spaces space)) (turned space s)) ∙ taken number (nat_eq s space) (finmap.get old.spaces space)
comes old new (Faulted s p) space number after dirty step there =
    opened old s p (Faulted s p) step.0.bytes step.1 space number step.0 after _ refl refl refl refl step.2 refl
    (sym (put old s p _ space number) ∙ ap (λ c. page_at c space number) (sym step.4) ∙ there)
comes old new (Stored s p offset bytes) space number after dirty step there =
    opened old s p (Stored s p offset bytes) _ step.1 space number step.0 after _ refl refl refl refl step.2 refl
    (sym (put old s p _ space number) ∙ ap (λ c. page_at c space number) (sym step.4) ∙ there)
comes old new (Tried s p offset bytes) space number after dirty step there =
    replaced old s p (Tried s p offset bytes) space number step.0 _ after _
    (λ e. record { soft_dirty = dirty s p step.0 step.1 step.2 ∙ sym (ap (λ b. b || step.0.soft_dirty) e); writable = refl; bytes = λ untouched. absurd (both_tests _ e untouched) })
    (λ e. (e, refl, refl, refl)) step.1 refl
    (sym (put old s p _ space number) ∙ ap (λ c. page_at c space number) (sym step.3) ∙ there)
comes old new (Cleared s p) space number after dirty step there =
    replaced old s p (Cleared s p) space number step.0 _ after _
    (λ e. record { soft_dirty = sym (ap (λ b. cond b false step.0.soft_dirty) e); writable = sym (ap (λ b. cond b false step.0.writable) e); bytes = λ _. refl })
    (λ e. (refl, e, refl, e)) step.1 refl
    (sym (put old s p _ space number) ∙ ap (λ c. page_at c space number) (sym step.2) ∙ there)
comes old new Passed space number after dirty step there = kept old Passed space number after (ap (λ c. page_at c space number) (sym step) ∙ there) (refl, refl, refl, refl)

pub page_law : PageLaw
page_law old new event space number after sound step there = comes old new event space number after (λ s p page at w. (sound.writable s p page at w).soft_dirty) step there

-- A page that is mapped after a command was mapped before, or the command made it.
use Rattle.std.proofs.Common.{◌≡◌, ◌⊎◌, ℕ, ◌==◌, Bool, true, false, cond, nat_eq, is_some, Option, Some, None, refl, sym, ◌∙◌, ap, subst, arith, unwrap_or, inl, inr}
use Rattle.std.proofs.lemmas.Bool.Decides.{nat_tests}
use Rattle.std.specs.Option.{option_map, option_map_or}
use Rattle.std.specs.Ordering.{nat_cmp}
use Rattle.std.specs.FinMap as finmap
use Rattle.std.specs.FinMap.{get-empty}
use Rattle.std.proofs.lemmas.Bool.{or_right, and_from}
use Rattle.sd_areas.specs.Pages.{is_within, page_of, pages_for}
use Rattle.sd_areas.specs.PlainMemory.{Page, Space, PlainMemory}
use Rattle.sd_pagetable.specs.Nested.{inside, value_at, put_at, set_within, remove_within, change_within}
use Rattle.sd_pagetable.specs.Tracking.{touches, write_protects}
use Rattle.sd_command.specs.declared.command.Command.{Command}
use Rattle.sd_command.specs.declared.command.Command.TheVariants as command
use Rattle.sd_command.specs.declared.reply.Reply.{Reply}
use Rattle.sd_command.specs.declared.reply.Reply.TheVariants as told
use Rattle.sd_command.specs.Events.{event_of}
use Rattle.sd_command.specs.Replies.{effect}
use Rattle.sd_journal.specs.Marked.{is_mapped}
use Rattle.sd_journal.proofs.PlainLemmas.{get_put, get_removed, get-set_within, get-remove_within, get-change_within}

never_some : {P : Type 0} → false ≡ true → P
never_some e = absurd (cc)

same_of : (a b : ℕ) → nat_eq a b ≡ true → a ≡ b
same_of a b e = grind (arith, nat_tests)

turned : (a b : ℕ) → a ≡ b → (b == a) ≡ true
turned a b e = grind (arith, nat_tests)

-- either the page was mapped, or something else is so
abbrev Was : PlainMemory → ℕ → ℕ → Type 0 → Type 0
Was memory space page P = (is_mapped memory space page ≡ true) ⊎ P

-- a space was given other pages
put_mapped : (memory : PlainMemory) (s : ℕ) (pages : Space) (space page : ℕ) (P : Type 0) → is_mapped (finmap.insert memory s pages) space page ≡ true
    → (space ≡ s → is_some (finmap.get pages page) ≡ true → Was memory space page P) → Was memory space page P
put_mapped memory s pages space page P mapped own = by (nat_eq space s) refl
    (sym (ap (λ o. is_some (finmap.get (unwrap_or o finmap.empty) page)) (get_put memory s pages space)) ∙ mapped)
  where
    by : (b : Bool) → nat_eq space s ≡ b → is_some (finmap.get (unwrap_or (cond (nat_eq space s) (Some pages) (finmap.get memory space)) finmap.empty) page) ≡ true
        → Was memory space page P
    by true e at = own (same_of space s e) (sym (ap (λ b. is_some (finmap.get (unwrap_or (cond b (Some pages) (finmap.get memory space)) finmap.empty) page)) e) ∙ at)
    by false e at = inl (sym (ap (λ b. is_some (finmap.get (unwrap_or (cond b (Some pages) (finmap.get memory space)) finmap.empty) page)) e) ∙ at)

-- a space is gone
removed_mapped : (memory : PlainMemory) (s space page : ℕ) → is_mapped (finmap.remove memory s) space page ≡ true → is_mapped memory space page ≡ true
removed_mapped memory s space page mapped = by (nat_eq space s)
    (sym (ap (λ o. is_some (finmap.get (unwrap_or o finmap.empty) page)) (get_removed memory s space)) ∙ mapped)
  where
    by : (b : Bool) → is_some (finmap.get (unwrap_or (cond b None (finmap.get memory space)) finmap.empty) page) ≡ true → is_mapped memory space page ≡ true
    by true at = never_some (sym (ap is_some (get-empty nat_cmp page)) ∙ at)
    by false at = at

some_of : (o : Option Page) (change : Page → Page) → is_some (option_map change o) ≡ true → is_some o ≡ true
some_of o change e = grind arith

here : (memory : PlainMemory) (s space page : ℕ) → space ≡ s → is_some (finmap.get (inside memory s) page) ≡ true → is_mapped memory space page ≡ true
here memory s space page e some = subst (λ o. is_mapped memory o page ≡ true) (sym e) some

-- a run is set, removed or changed
set_mapped : (memory : PlainMemory) (s first count : ℕ) (x : Page) (space page : ℕ) (P : Type 0) → (s == space ≡ true → is_within first count page ≡ true → P)
    → is_mapped (finmap.insert memory s (set_within (inside memory s) first count x)) space page ≡ true → Was memory space page P
set_mapped memory s first count x space page P made mapped =
    put_mapped memory s (set_within (inside memory s) first count x) space page P mapped
    (λ e some. by e (is_within first count page) refl (sym (ap is_some (get-set_within (inside memory s) first count x page)) ∙ some))
  where
    by : space ≡ s → (b : Bool) → is_within first count page ≡ b → is_some (cond (is_within first count page) (Some x) (finmap.get (inside memory s) page)) ≡ true
        → Was memory space page P
    by e true within some = inr (made (turned space s e) within)
    by e false outside some =
        inl (here memory s space page e (sym (ap (λ b. is_some (cond b (Some x) (finmap.get (inside memory s) page))) outside) ∙ some))

removed_run_mapped : (memory : PlainMemory) (s first count space page : ℕ)
    → is_mapped (finmap.insert memory s (remove_within (inside memory s) first count)) space page ≡ true → Was memory space page ⊥
removed_run_mapped memory s first count space page mapped =
    put_mapped memory s (remove_within (inside memory s) first count) space page ⊥ mapped
    (λ e some. by e (is_within first count page) (sym (ap is_some (get-remove_within (inside memory s) first count page)) ∙ some))
  where
    by : space ≡ s → (b : Bool) → is_some (cond b None (finmap.get (inside memory s) page)) ≡ true → Was memory space page ⊥
    by e true some = never_some some
    by e false some = inl (here memory s space page e some)

changed_run_mapped : (memory : PlainMemory) (s first count : ℕ) (change : Page → Page) (space page : ℕ)
    → is_mapped (finmap.insert memory s (change_within change (inside memory s) first count)) space page ≡ true → Was memory space page ⊥
changed_run_mapped memory s first count change space page mapped =
    put_mapped memory s (change_within change (inside memory s) first count) space page ⊥ mapped
    (λ e some. inl (here memory s space page e (some_of (finmap.get (inside memory s) page) (λ x. cond (is_within first count page) (change x) x)
    (sym (ap is_some (get-change_within change (inside memory s) first count page)) ∙ some))))

stored_mapped : (memory : PlainMemory) (s p : ℕ) (x : Page → Page) (space page : ℕ)
    → is_mapped (option_map_or (λ (found : Page). put_at memory s p (x found)) (value_at memory s p) memory) space page ≡ true → is_mapped memory space page ≡ true
unfolding put_at
stored_mapped memory s p x space page mapped = by (value_at memory s p) refl mapped
  where
    in_page : (found : Page) → value_at memory s p ≡ Some found → space ≡ s → (b : Bool) → nat_eq page p ≡ b
        → is_some (cond (nat_eq page p) (Some (x found)) (finmap.get (inside memory s) page)) ≡ true → Was memory space page ⊥
    in_page found is e true at some =
        inl (here memory s space page e (ap (λ q. is_some (finmap.get (inside memory s) q)) (same_of page p at) ∙ ap is_some is))
    in_page found is e false other some =
        inl (here memory s space page e (sym (ap (λ b. is_some (cond b (Some (x found)) (finmap.get (inside memory s) page))) other) ∙ some))

    only : Was memory space page ⊥ → is_mapped memory space page ≡ true
    only given = grind arith

    by : (o : Option Page) → value_at memory s p ≡ o → is_mapped (option_map_or (λ (found : Page). put_at memory s p (x found)) o memory) space page ≡ true
        → is_mapped memory space page ≡ true
    by o is at = grind (arith, put_mapped, get_put)

-- the command touched the page, and it isn't writable
pub record IsMadeBy (asked : Command) (answer : Reply) (space page : ℕ) : Type 0 where
  pub touched : touches space page (event_of asked answer) ≡ true
  pub protected : write_protects space page (event_of asked answer) ≡ true

no_more : {P : Type 0} (memory : PlainMemory) (space page : ℕ) → Was memory space page ⊥ → Was memory space page P
no_more memory space page given = grind arith

pub was_mapped : (asked : Command) (answer : Reply) (memory : PlainMemory) (space page : ℕ) → is_mapped (effect asked answer memory) space page ≡ true
    → (is_mapped memory space page ≡ true) ⊎ IsMadeBy asked answer space page
was_mapped (command.Mmap s address bytes prot) told.Done memory space page mapped =
    set_mapped memory s (page_of address) (pages_for bytes) _ space page (IsMadeBy (command.Mmap s address bytes prot) told.Done space page)
    (λ own within. record { touched = and_from _ _ own within; protected = and_from _ _ own within }) mapped
was_mapped (command.Munmap s address bytes) told.Done memory space page mapped = no_more memory space page (removed_run_mapped memory s (page_of address) (pages_for bytes) space page mapped)
was_mapped (command.Mprotect s address bytes prot) told.Done memory space page mapped =
    no_more memory space page (changed_run_mapped memory s (page_of address) (pages_for bytes) (λ (found : Page). record found { prot = prot }) space page mapped)
was_mapped (command.Fork parent) (told.Child child) memory space page mapped =
    put_mapped memory child (inside memory parent) space page (IsMadeBy (command.Fork parent) (told.Child child) space page) mapped
    (λ e some. inr (record { touched = turned space child e; protected = or_right (parent == space) (child == space) (turned space child e) }))
was_mapped (command.Exit s) told.Done memory space page mapped = inl (removed_mapped memory s space page mapped)
was_mapped (command.TryStore s address bytes) told.Done memory space page mapped = inl (stored_mapped memory s (page_of address) _ space page mapped)
was_mapped (command.Store s address bytes) told.Done memory space page mapped = inl (stored_mapped memory s (page_of address) _ space page mapped)
was_mapped _ answer memory space page mapped = inl mapped

-- Finite maps by number: the code's maps seen as such, and runs of pages that change one after the other.
use Rattle.std.proofs.Common.{Bor, ◌≡◌, ℕ, ◌+◌, ◌-◌, ◌%◌, ◌<◌, ◌≤◌, Bool, true, false, cond, nat_eq, nat_le, is_some, List, [], ◌∷◌, length, Option, Some, None, IsSome, unwrap_or, refl, sym, ◌∙◌, ap, subst, arith}
use Rattle.std.proofs.lemmas.Bool.Decides.{nat_tests}
use Rattle.std.specs.Option.{option_copied, option_map, option_map_or}
use Rattle.std.specs.Ordering.{nat_cmp, is_lt}
use Rattle.std.specs.FinMap as finmap
use Rattle.std.specs.Prelude.{Result, Ok, Err, OnOk, IfOk}
use Rattle.std.specs.Map.{lookup}
use Rattle.std.specs.BTreeMap.{BTreeMap, is_at}
use Rattle.std.specs.BTreeMap.Range.{IsFromStart, IsLeBy}
use Rattle.std.specs.declared.ops.Bound.TheVariants.{Included}
use Rattle.std.proofs.lemmas.Option.{same_Some}
use Rattle.sd_areas.specs.declared.snapshot_page.SnapshotPage.{SnapshotPage}
use Rattle.sd_areas.specs.declared.snapshot.Snapshot.{Snapshot}
use Rattle.sd_areas.specs.Memory.{memory_of, space_of}
use Rattle.sd_areas.specs.declared.prot.Prot.{Prot}
use Rattle.sd_areas.specs.Pages.{page_of, pages_for, is_within}
use Rattle.sd_areas.specs.PlainMemory.{Page, Space, PlainMemory}
use Rattle.sd_pagetable.specs.Access.{stored_at}
use Rattle.sd_pagetable.specs.Effects.{after_mprotect, after_store}
use Rattle.sd_pagetable.specs.Nested.{inside, is_alive, value_at, put_at, change_within}
pub use Rattle.sd_journal.proofs.PlainLemmas.{change_more, change_none, change_outside, change_skips, get-change_within, get-remove_within, get_memory, get_put, get_removed, get_seen, get_space, mapped_itself, memory_put, memory_removed, no_pages, none_taken, pages_in, put_back, removed_run, same_key, same_of, same_table, seen_put, seen_removed, set_more, set_none, space_put, space_removed, still_outside, turned_test}

pub not_none : {A : Type 0} (o : Option A) → o ≡ None → IsSome o → ⊥
not_none None e some = (let f : false ≡ true = some in cc)
not_none (Some a) e some = cc

pub from_start : (start q : ℕ) → nat_le start q ≡ true → IsFromStart nat_cmp (Included start) q
from_start start q e = grind (arith, nat_tests)

pub is_from_start : (start q : ℕ) → IsFromStart nat_cmp (Included start) q → nat_le start q ≡ true
is_from_start start q e = grind (arith, nat_tests)

pub in_run : (first end page : ℕ) → nat_le first page ≡ true → page < end → is_within first (end - first) page ≡ true
in_run first end page from below = grind (arith, nat_tests)

pub from_first : (first end q : ℕ) → is_within first (end - first) q ≡ true → nat_le first q ≡ true
from_first first end q within = grind (arith, nat_tests)

pub below_end : (first end q : ℕ) → is_within first (end - first) q ≡ true → q < end
below_end first end q within = grind (arith, nat_tests)

pub le_by : (a b : ℕ) → IsLeBy nat_cmp a b → a ≤ b
le_by a b h = grind (arith, nat_tests)

pub some_within : {A B : Type 0} (f : A → B) (o : Option A) → IsSome (option_map f o) → IsSome o
some_within f None some = absurd (let e : false ≡ true = some in cc)
some_within f (Some a) some = refl

pub on_ok : {A E : Type 0} (r : Result A E) (P Q : Type 0) → (P → Q) → OnOk r P → OnOk r Q
on_ok (Ok x) P Q f p = f p
on_ok (Err e) P Q f p = p

-- a page that was taken out, changed and put back
pub put_changed : (old mid new : Space) (k : ℕ) (change : Page → Page) (found : Page) → mid ≡ finmap.remove old k → Some found ≡ finmap.get old k
    → new ≡ finmap.insert mid k (change found) → (before : Page) → finmap.get old k ≡ Some before → new ≡ finmap.insert old k (change before)
put_changed old mid new k change found taken there put before e =
    put ∙ ap (λ m. finmap.insert m k (change found)) taken ∙ put_back old k (change found)
    ∙ ap (λ page. finmap.insert old k (change page)) (same_Some found before (there ∙ e))

-- a page of a run was changed, where it is there
pub changed_step : (change : Page → Page) (old now new : Space) (first k : ℕ) → first ≤ k → now ≡ change_within change old first (k - first)
    → ((before : Page) → finmap.get now k ≡ Some before → new ≡ finmap.insert now k (change before)) → (finmap.get now k ≡ None → new ≡ now)
    → new ≡ change_within change old first (k + 1 - first)
changed_step change old now new first k le done mapped hole = go (finmap.get old k) refl
  where
    here : finmap.get now k ≡ finmap.get old k
    here = ap (λ m. finmap.get m k) done ∙ change_outside change old first k

    go : (o : Option Page) → finmap.get old k ≡ o → new ≡ change_within change old first (k + 1 - first)
    go None e = hole (here ∙ e) ∙ done ∙ change_skips change old first k le e
    go (Some y) e = mapped y (here ∙ e) ∙ ap (λ m. finmap.insert m k (change y)) done ∙ change_more change old first k y le e

-- ---- spaces of a memory

pub same_run : (change : Space → ℕ → ℕ → Space) (now old result : Space) (first end start count : ℕ) → result ≡ change now first (end - first)
    → now ≡ old → first ≡ start → end ≡ start + count → result ≡ change old start count
same_run change now old result first end start count run is at to =
    let long : end - first ≡ count = omega arith in
    run ∙ ap (λ p. change p first (end - first)) is ∙ ap (λ n. change old first n) long ∙ ap (λ n. change old n count) at

pub zero_within : (first q : ℕ) → is_within first 0 q ≡ false
zero_within first q = grind (arith, nat_tests)

pub change_zero : (change : Page → Page) (pages : Space) (first : ℕ) → change_within change pages first 0 ≡ pages
change_zero change pages first = same_table _ _ (λ q. get-change_within change pages first 0 q
    ∙ ap (λ b. option_map (λ x. cond b (change x) x) (finmap.get pages q)) (zero_within first q) ∙ mapped_itself (finmap.get pages q))

pub itself : (memory : PlainMemory) (s : ℕ) → is_some (finmap.get memory s) ≡ true → finmap.insert memory s (inside memory s) ≡ memory
itself memory s alive = same_table _ _ (λ q. get_put memory s (inside memory s) q ∙ at (finmap.get memory s) refl alive q (nat_eq q s) refl)
  where
    at : (o : Option Space) → finmap.get memory s ≡ o → is_some o ≡ true → (q : ℕ) (b : Bool) → nat_eq q s ≡ b
        → cond b (Some (inside memory s)) (finmap.get memory q) ≡ finmap.get memory q
    at o e alive q false is = refl
    at None e alive q true is = absurd (let f : false ≡ true = alive in cc)
    at (Some pages) e alive q true is = ap (λ o. Some (unwrap_or o finmap.empty)) e ∙ sym e ∙ ap (finmap.get memory) (sym (same_of q s is))

pub none_protected : (memory : PlainMemory) (s address bytes : ℕ) (prot : Prot) → is_alive memory s ≡ true → bytes ≡ 0
    → memory ≡ after_mprotect memory s address bytes prot
none_protected memory s address bytes prot alive none =
    let change : Page → Page = λ page. record page { prot = prot } in
    sym (ap (λ n. finmap.insert memory s (change_within change (inside memory s) (page_of address) (pages_for n))) none
    ∙ ap (finmap.insert memory s) (change_zero change (inside memory s) (page_of address)) ∙ itself memory s alive)

pub stored_memory : (old new : PlainMemory) (s address : ℕ) (bytes : List ℕ) (pages changed : Space) → pages ≡ inside old s
    → ((before : Page) → finmap.get pages (page_of address) ≡ Some before
    → changed ≡ finmap.insert pages (page_of address) (record before { bytes = stored_at before.bytes (address % 4096) bytes }))
    → IsSome (value_at old s (page_of address)) → new ≡ finmap.insert old s changed → new ≡ after_store old s address bytes
unfolding put_at
stored_memory old new s address bytes pages changed is mapped there put = go (value_at old s (page_of address)) refl there
  where
    go : (o : Option Page) → value_at old s (page_of address) ≡ o → IsSome o
        → new ≡ option_map_or (λ (page : Page). put_at old s (page_of address) (record page { bytes = stored_at page.bytes (address % 4096) bytes })) o old
    go None e some = absurd (let f : false ≡ true = some in cc)
    go (Some before) e some =
        let page : Page = record before { bytes = stored_at before.bytes (address % 4096) bytes } in
        put ∙ ap (finmap.insert old s) (mapped before (ap (λ (p : Space). finmap.get p (page_of address)) is ∙ e) ∙ ap (λ (p : Space). finmap.insert p (page_of address) page) is)

pub if_ok : {A E : Type 0} (r : Result A E) (P Q : A → Type 0) → ((a : A) → P a → Q a) → IfOk r P → IfOk r Q
if_ok (Ok a) P Q f p = f a p
if_ok (Err e) P Q f p = p

pub found_pages : (memory : Snapshot) (s : ℕ) (pages : BTreeMap ℕ SnapshotPage) → Some pages ≡ lookup (is_at (nat_cmp s)) memory.spaces.entries
    → space_of pages.entries ≡ inside (memory_of memory) s
found_pages memory s pages e = sym (ap (λ o. unwrap_or o finmap.empty) (get_memory memory s ∙ ap (option_map pages_in) (sym e)))

pub missing_pages : (memory : Snapshot) (s : ℕ) (none : BTreeMap ℕ SnapshotPage) → none.entries ≡ [] → None ≡ lookup (is_at (nat_cmp s)) memory.spaces.entries
    → space_of none.entries ≡ inside (memory_of memory) s
missing_pages memory s none empty e =
    no_pages none.entries empty ∙ sym (ap (λ o. unwrap_or o finmap.empty) (get_memory memory s ∙ ap (option_map pages_in) (sym e)))

pub always : {A E : Type 0} (r : Result A E) (P : Type 0) → P → OnOk r P
always (Ok x) P p = p
always (Err e) P p = tt

pub none_of : {A : Type 0} (o : Option A) → is_some o ≡ false → o ≡ None
none_of None e = refl
none_of (Some a) e = absurd (let f : true ≡ false = e in cc)

pub lent_pages : (memory : Snapshot) (s : ℕ) (found : Option (Bor (BTreeMap ℕ SnapshotPage))) (none result : Bor (BTreeMap ℕ SnapshotPage))
    → option_copied found ≡ lookup (is_at (nat_cmp s)) memory.spaces.entries → none.now.entries ≡ [] → result ≡ unwrap_or found none
    → space_of result.now.entries ≡ inside (memory_of memory) s
lent_pages memory s None none result e empty is = ap (λ (r : Bor (BTreeMap ℕ SnapshotPage)). space_of r.now.entries) is ∙ missing_pages memory s none.now empty e
lent_pages memory s (Some pages) none result e empty is = ap (λ (r : Bor (BTreeMap ℕ SnapshotPage)). space_of r.now.entries) is ∙ found_pages memory s pages.now e

is_below : (a b : ℕ) → a < b → is_lt (nat_cmp a b) ≡ true
is_below a b less = grind (arith, nat_tests)

pub no_entry : {X : Type 0} (es : List (ℕ × X)) (q : ℕ) → (0 < length es → ⊥) → lookup (is_at (nat_cmp q)) es ≡ None
no_entry [] q none = refl
no_entry (e ∷ es) q none = absurd (none (omega arith))

pub past_last : {X : Type 0} (es : List (ℕ × X)) (last number : ℕ) → last < number → ((q : ℕ) → IsSome (lookup (is_at (nat_cmp q)) es) → is_lt (nat_cmp last q) ≡ false)
    → lookup (is_at (nat_cmp number)) es ≡ None
past_last {X} es last number past greatest = gone (lookup (is_at (nat_cmp number)) es) refl
  where
    gone : (o : Option X) → lookup (is_at (nat_cmp number)) es ≡ o → o ≡ None
    gone None e = refl
    gone (Some page) e = absurd (let f : false ≡ true = sym (greatest number (subst IsSome (sym e) refl)) ∙ is_below last number past in cc)

-- Room that is made in a memory, and taken back.
use Rattle.std.proofs.Common.{◌≡◌, ℕ, Bool, true, false, cond, nat_eq, is_some, List, [], ◌∷◌, ◌++◌, map, reverse, Option, Some, None, IsSome, unwrap_or, refl, sym, ◌∙◌, ap, arith}
use Rattle.std.proofs.lemmas.List.{reverse-append}
use Rattle.std.proofs.lemmas.Bool.Decides.{nat_tests}
use Rattle.std.specs.Option.{option_map, option_map_or}
use Rattle.std.specs.Ordering.{nat_cmp}
use Rattle.std.specs.FinMap as finmap
use Rattle.std.specs.FinMap.{get-empty}
use Rattle.std.specs.Map.{lookup}
use Rattle.std.specs.BTreeMap.{BTreeMap, is_at}
use Rattle.std.specs.Prelude.{Result, Ok, Err, OnOk, OnErr}
use Rattle.sd_areas.specs.declared.snapshot_page.SnapshotPage.{SnapshotPage}
use Rattle.sd_areas.specs.declared.snapshot.Snapshot.{Snapshot}
use Rattle.sd_areas.specs.Memory.{memory_of, space_of, page_of_snapshot, put_page}
use Rattle.sd_areas.specs.PlainMemory.{Page, Space, PlainMemory}
use Rattle.sd_pagetable.specs.Nested.{Table, inside, is_alive, value_at, put_at}
use Rattle.sd_fold.specs.declared.added.Added.{Added}
use Rattle.sd_fold.specs.declared.added.Added.TheVariants as added
use Rattle.sd_fold.specs.Room.{without, without_page, before}
use Rattle.sd_fold.proofs.Tables.{same_table, get_put, get_removed, get_memory, get_space, itself, none_taken, same_of, pages_in, found_pages, memory_put, space_put, space_removed, not_none}

is_some_mapped : {A B : Type 0} (f : A → B) (o : Option A) → is_some (option_map f o) ≡ is_some o
is_some_mapped f None = refl
is_some_mapped f (Some a) = refl

-- whether the code's map has a space says whether it is alive
pub is_there : (memory : Snapshot) (s : ℕ) → is_some (lookup (is_at (nat_cmp s)) memory.spaces.entries) ≡ is_alive (memory_of memory) s
is_there memory s = sym (ap is_some (get_memory memory s) ∙ is_some_mapped pages_in (lookup (is_at (nat_cmp s)) memory.spaces.entries))

pub space_stays : (memory : PlainMemory) (s : ℕ) → is_alive memory s ≡ true → memory ≡ finmap.insert memory s (inside memory s)
space_stays memory s alive = sym (itself memory s alive)

not_some_none : {A : Type 0} (o : Option A) → is_some o ≡ false → o ≡ None
not_some_none None e = refl
not_some_none (Some a) e = absurd (let f : true ≡ false = e in cc)

-- an empty space that was added is what was inside
pub opened : (old new : PlainMemory) (s : ℕ) → is_alive old s ≡ false → new ≡ finmap.insert old s finmap.empty → new ≡ finmap.insert old s (inside old s)
opened old new s dead put = put ∙ ap (finmap.insert old s) (sym (ap (λ o. unwrap_or o finmap.empty) (not_some_none (finmap.get old s) dead)))

removed_again_by : {X : Type 0} (b : Bool) (v o : Option X) → (b ≡ true → o ≡ None) → cond b None (cond b v o) ≡ o
removed_again_by true v o none = sym (none refl)
removed_again_by false v o none = refl

pub removed_again : {X : Type 0} (m : Table X) (k : ℕ) (v : X) → finmap.get m k ≡ None → finmap.remove (finmap.insert m k v) k ≡ m
removed_again m k v none = same_table _ _ (λ q. get_removed (finmap.insert m k v) k q ∙ ap (cond (nat_eq q k) None) (get_put m k v q)
    ∙ removed_again_by (nat_eq q k) (Some v) (finmap.get m q) (λ here. ap (finmap.get m) (same_of q k here) ∙ none))

-- what was added last is undone first
pub undo_step : (items new : List Added) (x : Added) (now old : PlainMemory) → new ≡ items ++ x ∷ [] → without x now ≡ old
    → before (reverse new) now ≡ before (reverse items) old
undo_step items new x now old e is = ap (λ (xs : List Added). before (reverse xs) now) e
    ∙ ap (λ (xs : List Added). before xs now) (reverse-append items (x ∷ [])) ∙ ap (before (reverse items)) is

-- a space that wasn't there was added, or memory was wanting
pub space_undone : {E : Type 0} (r : Result (Unit {0}) E) (old new : PlainMemory) (s : ℕ) → is_alive old s ≡ false
    → OnOk r (new ≡ finmap.insert old s finmap.empty) → OnErr r (new ≡ old) → without (added.Space s) new ≡ old
space_undone (Ok x) old new s dead ok err = ap (λ m. finmap.remove m s) ok ∙ removed_again old s finmap.empty (not_some_none (finmap.get old s) dead)
space_undone (Err e) old new s dead ok err = ap (λ m. finmap.remove m s) err ∙ none_taken old s (not_some_none (finmap.get old s) dead)

own : (n : ℕ) → nat_eq n n ≡ true
own n = grind (arith, nat_tests)

pub inside_put : (memory : PlainMemory) (s : ℕ) (pages : Space) → inside (finmap.insert memory s pages) s ≡ pages
inside_put memory s pages = ap (λ o. unwrap_or o finmap.empty) (get_put memory s pages s ∙ ap (λ b. cond b (Some pages) (finmap.get memory s)) (own s))

pub put_twice : (memory : PlainMemory) (s : ℕ) (one two : Space) → finmap.insert (finmap.insert memory s one) s two ≡ finmap.insert memory s two
put_twice memory s one two = same_table _ _ (λ q. get_put (finmap.insert memory s one) s two q ∙ ap (cond (nat_eq q s) (Some two)) (get_put memory s one q)
    ∙ twice (nat_eq q s) (finmap.get memory q) ∙ sym (get_put memory s two q))
  where
    twice : (b : Bool) (o : Option Space) → cond b (Some two) (cond b (Some one) o) ≡ cond b (Some two) o
    twice true o = refl
    twice false o = refl

-- without a page of a living space
pub alive_without : (memory : PlainMemory) (s q : ℕ) → is_alive memory s ≡ true → without_page memory s q ≡ finmap.insert memory s (finmap.remove (inside memory s) q)
alive_without memory s q alive = go (finmap.get memory s) refl alive
  where
    go : (o : Option Space) → finmap.get memory s ≡ o → is_some o ≡ true
        → option_map_or (λ (pages : Space). finmap.insert memory s (finmap.remove pages q)) o memory ≡ finmap.insert memory s (finmap.remove (inside memory s) q)
    go None e h = absurd (let f : false ≡ true = h in cc)
    go (Some pages) e h = ap (λ o. finmap.insert memory s (finmap.remove (unwrap_or o finmap.empty) q)) (sym e)

pub put_alive : (memory : PlainMemory) (s : ℕ) (pages : Space) → is_alive (finmap.insert memory s pages) s ≡ true
put_alive memory s pages = ap is_some (get_put memory s pages s ∙ ap (λ b. cond b (Some pages) (finmap.get memory s)) (own s))

-- a page that wasn't there was added, or memory was wanting
pub page_undone : {E : Type 0} (r : Result (Unit {0}) E) (old new : PlainMemory) (s q : ℕ) (found : Page) → is_alive old s ≡ true → is_some (value_at old s q) ≡ false
    → OnOk r (new ≡ put_at old s q found) → OnErr r (new ≡ old) → without (added.Page s q) new ≡ old
unfolding put_at
page_undone (Ok x) old new s q found alive none ok err =
    let pages : Space = finmap.insert (inside old s) q found in
    ap (λ m. without_page m s q) ok
    ∙ alive_without (finmap.insert old s pages) s q (put_alive old s pages)
    ∙ ap (λ p. finmap.insert (finmap.insert old s pages) s (finmap.remove p q)) (inside_put old s pages)
    ∙ put_twice old s pages (finmap.remove pages q)
    ∙ ap (finmap.insert old s) (removed_again (inside old s) q found (not_some_none (value_at old s q) none)) ∙ itself old s alive
page_undone (Err e) old new s q found alive none ok err =
    ap (λ m. without_page m s q) err ∙ alive_without old s q alive
    ∙ ap (finmap.insert old s) (none_taken (inside old s) q (not_some_none (value_at old s q) none)) ∙ itself old s alive

-- ---- pages of the code's spaces

pub page_there : (memory : Snapshot) (s q : ℕ) (pages : BTreeMap ℕ SnapshotPage) → Some pages ≡ lookup (is_at (nat_cmp s)) memory.spaces.entries
    → is_some (lookup (is_at (nat_cmp q)) pages.entries) ≡ is_some (value_at (memory_of memory) s q)
page_there memory s q pages e = sym (ap is_some (ap (λ (p : Space). finmap.get p q) (sym (found_pages memory s pages e)) ∙ get_space pages.entries q)
    ∙ is_some_mapped page_of_snapshot (lookup (is_at (nat_cmp q)) pages.entries))

pub no_space : (memory : Snapshot) (s : ℕ) → None ≡ lookup (is_at (nat_cmp s)) memory.spaces.entries → is_alive (memory_of memory) s ≡ false
no_space memory s e = sym (is_there memory s) ∙ ap is_some (sym e)

pub none_there : (memory : Snapshot) (s q : ℕ) → None ≡ lookup (is_at (nat_cmp s)) memory.spaces.entries → false ≡ is_some (value_at (memory_of memory) s q)
none_there memory s q e = sym (ap is_some (ap (λ o. finmap.get (unwrap_or o finmap.empty) q) (not_some_none (finmap.get (memory_of memory) s) (no_space memory s e)) ∙ get-empty nat_cmp q))

pub put_is : (memory : PlainMemory) (s q : ℕ) (found : Page) → put_page memory s q found ≡ put_at memory s q found
unfolding put_at
put_is memory s q found = refl

pub page_removed : (old new : Snapshot) (s q : ℕ) (was now : BTreeMap ℕ SnapshotPage) → Some was ≡ lookup (is_at (nat_cmp s)) old.spaces.entries
    → ((n : ℕ) → lookup (is_at (nat_cmp n)) new.spaces.entries ≡ cond (is_at (nat_cmp s) n) (Some now) (lookup (is_at (nat_cmp n)) old.spaces.entries))
    → ((n : ℕ) → lookup (is_at (nat_cmp n)) now.entries ≡ cond (is_at (nat_cmp q) n) None (lookup (is_at (nat_cmp n)) was.entries))
    → memory_of new ≡ without_page (memory_of old) s q
page_removed old new s q was now found outer inner = memory_put old new s now outer
    ∙ ap (finmap.insert (memory_of old) s) (space_removed was.entries now.entries q inner)
    ∙ ap (λ o. option_map_or (λ (pages : Space). finmap.insert (memory_of old) s (finmap.remove pages q)) o (memory_of old))
    (sym (get_memory old s ∙ ap (option_map pages_in) (sym found)))

same_memory : (old new : Snapshot) → new.spaces ≡ old.spaces → memory_of new ≡ memory_of old
unfolding memory_of
same_memory old new e = ap (λ (spaces : BTreeMap ℕ (BTreeMap ℕ SnapshotPage)). finmap.from_entries {R = nat_cmp} (map (λ e. (e.0, space_of e.1.entries)) spaces.entries)) e

pub none_removed : (old new : Snapshot) (s q : ℕ) → new.spaces ≡ old.spaces → None ≡ lookup (is_at (nat_cmp s)) old.spaces.entries → memory_of new ≡ without_page (memory_of old) s q
none_removed old new s q same none = same_memory old new same
    ∙ ap (λ o. option_map_or (λ (pages : Space). finmap.insert (memory_of old) s (finmap.remove pages q)) o (memory_of old))
    (sym (get_memory old s ∙ ap (option_map pages_in) (sym none)))

pub is_found : {A : Type 0} (o : Option A) (v : A) → Some v ≡ o → IsSome o
is_found o v e = ap is_some (sym e)

-- a page that is there was replaced: that can't fail
pub page_replaced : {A E : Type 0} (r : Result A E) (old new : Snapshot) (s q : ℕ) (was now : BTreeMap ℕ SnapshotPage) (v : SnapshotPage) → Some was ≡ lookup (is_at (nat_cmp s)) old.spaces.entries
    → ((n : ℕ) → lookup (is_at (nat_cmp n)) new.spaces.entries ≡ cond (is_at (nat_cmp s) n) (Some now) (lookup (is_at (nat_cmp n)) old.spaces.entries))
    → OnOk r ((n : ℕ) → lookup (is_at (nat_cmp n)) now.entries ≡ cond (is_at (nat_cmp q) n) (Some v) (lookup (is_at (nat_cmp n)) was.entries))
    → OnErr r (lookup (is_at (nat_cmp q)) was.entries ≡ None) → IsSome (value_at (memory_of old) s q)
    → memory_of new ≡ put_at (memory_of old) s q (page_of_snapshot v)
unfolding put_at
page_replaced (Ok x) old new s q was now v found outer inner absent there = memory_put old new s now outer
    ∙ ap (finmap.insert (memory_of old) s) (space_put was.entries now.entries q v inner ∙ ap (λ p. finmap.insert p q (page_of_snapshot v)) (found_pages old s was found))
page_replaced (Err e) old new s q was now v found outer inner absent there =
    absurd (not_none (lookup (is_at (nat_cmp q)) was.entries) absent (page_there old s q was found ∙ there))

pub never_replaced : (old : Snapshot) (s q : ℕ) → None ≡ lookup (is_at (nat_cmp s)) old.spaces.entries → IsSome (value_at (memory_of old) s q) → ⊥
never_replaced old s q none there = let f : false ≡ true = none_there old s q none ∙ there in cc

-- a space was opened, and then its pages changed
pub over_opened : (old mid new : PlainMemory) (s : ℕ) (one two : Space) → mid ≡ finmap.insert old s one → new ≡ finmap.insert mid s two → new ≡ finmap.insert old s two
over_opened old mid new s one two opened put = put ∙ ap (λ m. finmap.insert m s two) opened ∙ put_twice old s one two

pub within_opened : (old mid : PlainMemory) (s : ℕ) → mid ≡ finmap.insert old s (inside old s) → inside mid s ≡ inside old s
within_opened old mid s opened = ap (λ m. inside m s) opened ∙ inside_put old s (inside old s)

-- Finite maps by number: the code's maps seen as such, and runs of pages that change one after the other.
use Rattle.std.proofs.Common.{◌≡◌, ℕ, zero, suc, ◌+◌, ◌-◌, ◌<◌, ◌≤◌, Bool, true, false, not, cond, nat_eq, ◌||◌, List, [], ◌∷◌, ◌++◌, map, Option, Some, None, IsSome, refl, sym, ◌∙◌, ap, subst, inl, inr, arith}
use Rattle.std.proofs.lemmas.Bool.Decides.{nat_tests}
use Rattle.std.proofs.lemmas.Bool.{cases_Bool, cond-false}
use Rattle.std.specs.Option.{option_map}
use Rattle.std.specs.Ordering.{nat_cmp, eq_by_cmp}
use Rattle.std.specs.Cmp.{nat_cmp_total}
use Rattle.std.specs.FinMap as finmap
use Rattle.std.specs.FinMap.{find, same_map, get-insert, get-remove, get-empty, get-from_entries, get-entries, get-retain_keys, nat_cmp-IsAntisymmetric}
use Rattle.std.specs.declared.cmp.Ordering.TheVariants.{Less}
use Rattle.std.specs.Map.{lookup, keys_of}
use Rattle.std.specs.List.Sorted.{IsStrictlySortedBy}
use Rattle.std.specs.BTreeMap.{BTreeMap, is_at}
use Rattle.sd_areas.specs.declared.snapshot_page.SnapshotPage.{SnapshotPage}
use Rattle.sd_areas.specs.declared.snapshot.Snapshot.{Snapshot}
use Rattle.sd_areas.specs.Memory.{memory_of, space_of, page_of_snapshot}
use Rattle.sd_areas.specs.Pages.{pages_from, is_within}
use Rattle.sd_areas.specs.PlainMemory.{Page, Space}
use Rattle.sd_pagetable.specs.Nested.{Table, map_entries, set_within, remove_within, change_within}

same_test : (a b : ℕ) → eq_by_cmp nat_cmp a b ≡ nat_eq a b
same_test a b = grind (arith, nat_tests)

pub turned_test : (a b : ℕ) → eq_by_cmp nat_cmp a b ≡ nat_eq b a
turned_test a b = grind (arith, nat_tests)

tied : (a b : ℕ) → eq_by_cmp nat_cmp a b ≡ true → a ≡ b
tied a b is = grind (arith, nat_tests)

pub same_key : (q k : ℕ) → is_at (nat_cmp q) k ≡ nat_eq q k
same_key q k = grind (arith, nat_tests)

pub same_of : (a b : ℕ) → nat_eq a b ≡ true → a ≡ b
same_of a b e = grind (arith, nat_tests)

module _ {X : Type 0} where
  pub same_table : (m n : Table X) → ((q : ℕ) → finmap.get m q ≡ finmap.get n q) → m ≡ n
  same_table m n is = same_map nat_cmp_total nat_cmp-IsAntisymmetric m n is

  pub get_put : (m : Table X) (k : ℕ) (v : X) (q : ℕ) → finmap.get (finmap.insert m k v) q ≡ cond (nat_eq q k) (Some v) (finmap.get m q)
  get_put m k v q = get-insert nat_cmp_total m k v q ∙ ap (λ b. cond b (Some v) (finmap.get m q)) (same_test q k)

  pub get_removed : (m : Table X) (k q : ℕ) → finmap.get (finmap.remove m k) q ≡ cond (nat_eq q k) None (finmap.get m q)
  get_removed m k q = get-remove nat_cmp_total m k q ∙ ap (λ b. cond b None (finmap.get m q)) (same_test q k)

  twice : (b : Bool) (x : Option X) (y z : Option X) → cond b x (cond b y z) ≡ cond b x z
  twice b x y z = grind arith

  -- what was taken out and put back
  pub put_back : (m : Table X) (k : ℕ) (v : X) → finmap.insert (finmap.remove m k) k v ≡ finmap.insert m k v
  put_back m k v = same_table _ _ (λ q. get_put (finmap.remove m k) k v q ∙ ap (cond (nat_eq q k) (Some v)) (get_removed m k q)
      ∙ twice (nat_eq q k) (Some v) None (finmap.get m q) ∙ sym (get_put m k v q))

  taken_by : (b : Bool) (o : Option X) → (b ≡ true → o ≡ None) → cond b None o ≡ o
  taken_by b o none = grind arith

  -- what isn't there is taken out
  pub none_taken : (m : Table X) (k : ℕ) → finmap.get m k ≡ None → finmap.remove m k ≡ m
  none_taken m k none = same_table _ _ (λ q. get_removed m k q ∙ taken_by (nat_eq q k) (finmap.get m q) (λ here. ap (finmap.get m) (same_of q k here) ∙ none))

-- ---- the code's maps

module _ {X Y : Type 0} (f : X → Y) where
  abbrev seen : List (ℕ × X) → Table Y
  seen es = finmap.from_entries (map (λ e. (e.0, f e.1)) es)

  mapped_cond : (b : Bool) (x : X) (o : Option X) → cond b (Some (f x)) (option_map f o) ≡ option_map f (cond b (Some x) o)
  mapped_cond b x o = grind arith

  mapped_none : (b : Bool) (o : Option X) → option_map f (cond b None o) ≡ cond b None (option_map f o)
  mapped_none b o = grind arith

  find_lookup : (es : List (ℕ × X)) (q : ℕ) → find nat_cmp q (map (λ e. (e.0, f e.1)) es) ≡ option_map f (lookup (is_at (nat_cmp q)) es)
  find_lookup [] q = refl
  find_lookup (e ∷ es) q = ap (cond (eq_by_cmp nat_cmp q e.0) (Some (f e.1))) (find_lookup es q) ∙ mapped_cond (eq_by_cmp nat_cmp q e.0) e.1 (lookup (is_at (nat_cmp q)) es)

  pub get_seen : (es : List (ℕ × X)) (q : ℕ) → finmap.get (seen es) q ≡ option_map f (lookup (is_at (nat_cmp q)) es)
  get_seen es q = get-from_entries nat_cmp_total _ q ∙ find_lookup es q

  pub seen_put : (old new : List (ℕ × X)) (k : ℕ) (v : X) → ((q : ℕ) → lookup (is_at (nat_cmp q)) new ≡ cond (is_at (nat_cmp k) q) (Some v) (lookup (is_at (nat_cmp q)) old))
      → seen new ≡ finmap.insert (seen old) k (f v)
  seen_put old new k v is = same_table _ _ (λ q. get_seen new q ∙ ap (option_map f) (is q)
      ∙ sym (mapped_cond (is_at (nat_cmp k) q) v (lookup (is_at (nat_cmp q)) old))
      ∙ ap (λ b. cond b (Some (f v)) (option_map f (lookup (is_at (nat_cmp q)) old))) (turned_test k q)
      ∙ ap (cond (nat_eq q k) (Some (f v))) (sym (get_seen old q)) ∙ sym (get_put (seen old) k (f v) q))

  pub seen_removed : (old new : List (ℕ × X)) (k : ℕ) → ((q : ℕ) → lookup (is_at (nat_cmp q)) new ≡ cond (is_at (nat_cmp k) q) None (lookup (is_at (nat_cmp q)) old))
      → seen new ≡ finmap.remove (seen old) k
  seen_removed old new k is = same_table _ _ (λ q. get_seen new q ∙ ap (option_map f) (is q)
      ∙ mapped_none (is_at (nat_cmp k) q) (lookup (is_at (nat_cmp q)) old)
      ∙ ap (λ b. cond b None (option_map f (lookup (is_at (nat_cmp q)) old))) (turned_test k q)
      ∙ ap (cond (nat_eq q k) None) (sym (get_seen old q)) ∙ sym (get_removed (seen old) k q))

pub get_space : (es : List (ℕ × SnapshotPage)) (q : ℕ) → finmap.get (space_of es) q ≡ option_map page_of_snapshot (lookup (is_at (nat_cmp q)) es)
unfolding space_of
get_space es q = get_seen page_of_snapshot es q

pub space_put : (old new : List (ℕ × SnapshotPage)) (k : ℕ) (v : SnapshotPage)
    → ((q : ℕ) → lookup (is_at (nat_cmp q)) new ≡ cond (is_at (nat_cmp k) q) (Some v) (lookup (is_at (nat_cmp q)) old))
    → space_of new ≡ finmap.insert (space_of old) k (page_of_snapshot v)
unfolding space_of
space_put old new k v is = seen_put page_of_snapshot old new k v is

pub space_removed : (old new : List (ℕ × SnapshotPage)) (k : ℕ)
    → ((q : ℕ) → lookup (is_at (nat_cmp q)) new ≡ cond (is_at (nat_cmp k) q) None (lookup (is_at (nat_cmp q)) old))
    → space_of new ≡ finmap.remove (space_of old) k
unfolding space_of
space_removed old new k is = seen_removed page_of_snapshot old new k is

pub no_pages : (es : List (ℕ × SnapshotPage)) → es ≡ [] → space_of es ≡ finmap.empty
unfolding space_of
no_pages es e = ap (λ l. finmap.from_entries {R = nat_cmp} (map (λ e. (e.0, page_of_snapshot e.1)) l)) e

-- the pages of a snapshot's space
abbrev pub pages_in : BTreeMap ℕ SnapshotPage → Space
pages_in pages = space_of pages.entries

pub get_memory : (memory : Snapshot) (s : ℕ) → finmap.get (memory_of memory) s ≡ option_map pages_in (lookup (is_at (nat_cmp s)) memory.spaces.entries)
unfolding memory_of
get_memory memory s = get_seen pages_in memory.spaces.entries s

pub memory_put : (old new : Snapshot) (k : ℕ) (v : BTreeMap ℕ SnapshotPage)
    → ((q : ℕ) → lookup (is_at (nat_cmp q)) new.spaces.entries ≡ cond (is_at (nat_cmp k) q) (Some v) (lookup (is_at (nat_cmp q)) old.spaces.entries))
    → memory_of new ≡ finmap.insert (memory_of old) k (space_of v.entries)
unfolding memory_of
memory_put old new k v is = seen_put pages_in old.spaces.entries new.spaces.entries k v is

pub memory_removed : (old new : Snapshot) (k : ℕ)
    → ((q : ℕ) → lookup (is_at (nat_cmp q)) new.spaces.entries ≡ cond (is_at (nat_cmp k) q) None (lookup (is_at (nat_cmp q)) old.spaces.entries))
    → memory_of new ≡ finmap.remove (memory_of old) k
unfolding memory_of
memory_removed old new k is = seen_removed pages_in old.spaces.entries new.spaces.entries k is

-- ---- what a map has after a run was changed

within_next : (first count q : ℕ) → is_within first (suc count) q ≡ (nat_eq q first || is_within (suc first) count q)
within_next first count q = grind (arith, nat_tests)

none_within : (first q : ℕ) → is_within first 0 q ≡ false
none_within first q = grind (arith, nat_tests)

alike : (first count q x : ℕ) → q ≡ x → not (is_within first count x) ≡ not (is_within first count q)
alike first count q x e = ap (λ n. not (is_within first count n)) (sym e)

within_none : (first q : ℕ) → is_within first (first - first) q ≡ false
within_none first q = grind (arith, nat_tests)

within_more : (first k q : ℕ) → first ≤ k → is_within first (k + 1 - first) q ≡ (nat_eq q k || is_within first (k - first) q)
within_more first k q le = grind (arith, nat_tests)

stands_not_after : (first k : ℕ) → is_within first (k - first) k ≡ false
stands_not_after first k = grind (arith, nat_tests)

module _ {X : Type 0} where
  cond-or : (a b : Bool) (x : X) (o : Option X) → cond a (Some x) (cond b (Some x) o) ≡ cond (a || b) (Some x) o
  cond-or a b x o = grind arith

  find_run : (first count : ℕ) (x : X) (es : List (ℕ × X)) (q : ℕ) → find nat_cmp q (map (λ page. (page, x)) (pages_from first count) ++ es) ≡ cond (is_within first count q) (Some x) (find nat_cmp q es)
  unfolding pages_from
  find_run first zero x es q = sym (cond-false (is_within first 0 q) (Some x) (find nat_cmp q es) (none_within first q))
  find_run first (suc count) x es q = ap (λ o. cond (eq_by_cmp nat_cmp q first) (Some x) o) (find_run (suc first) count x es q)
      ∙ ap (λ b. cond b (Some x) (cond (is_within (suc first) count q) (Some x) (find nat_cmp q es))) (same_test q first)
      ∙ cond-or (nat_eq q first) (is_within (suc first) count q) x (find nat_cmp q es)
      ∙ ap (λ b. cond b (Some x) (find nat_cmp q es)) (sym (within_next first count q))

  pub get-set_within : (m : Table X) (first count : ℕ) (x : X) (q : ℕ) → finmap.get (set_within m first count x) q ≡ cond (is_within first count q) (Some x) (finmap.get m q)
  unfolding set_within
  get-set_within m first count x q = get-from_entries nat_cmp_total _ q ∙ find_run first count x (finmap.entries m) q ∙ ap (cond (is_within first count q) (Some x)) (sym (get-entries m q))

  not_turned : (b : Bool) (o : Option X) → cond (not b) o None ≡ cond b None o
  not_turned b o = grind arith

  pub get-remove_within : (m : Table X) (first count q : ℕ) → finmap.get (remove_within m first count) q ≡ cond (is_within first count q) None (finmap.get m q)
  unfolding remove_within
  get-remove_within m first count q =
      get-retain_keys m (λ p. not (is_within first count p)) q (λ x e. alike first count q x (nat_cmp-IsAntisymmetric q x e))
      ∙ not_turned (is_within first count q) (finmap.get m q)

  module _ (f : ℕ → X → X) where
    found_changed : (es : List (ℕ × X)) (q : ℕ) → find nat_cmp q (map (λ (e : ℕ × X). (e.0, f e.0 e.1)) es) ≡ option_map (f q) (find nat_cmp q es)
    found_changed [] q = refl
    found_changed (e ∷ es) q = elim (cases_Bool (eq_by_cmp nat_cmp q e.0)) [
      | inl here ↦ ap (λ b. cond b (Some (f e.0 e.1)) (find nat_cmp q (map (λ (e : ℕ × X). (e.0, f e.0 e.1)) es))) here
          ∙ ap (λ k. Some (f k e.1)) (sym (tied q e.0 here)) ∙ ap (λ b. option_map (f q) (cond b (Some e.1) (find nat_cmp q es))) (sym here)
      | inr there ↦ ap (λ b. cond b (Some (f e.0 e.1)) (find nat_cmp q (map (λ (e : ℕ × X). (e.0, f e.0 e.1)) es))) there
          ∙ found_changed es q ∙ ap (λ b. option_map (f q) (cond b (Some e.1) (find nat_cmp q es))) (sym there)
    ]

    get-map_entries : (m : Table X) (q : ℕ) → finmap.get (map_entries f m) q ≡ option_map (f q) (finmap.get m q)
    unfolding map_entries
    get-map_entries m q = get-from_entries nat_cmp_total _ q ∙ found_changed (finmap.entries m) q ∙ ap (option_map (f q)) (sym (get-entries m q))

  pub get-change_within : (change : X → X) (m : Table X) (first count q : ℕ) → finmap.get (change_within change m first count) q ≡ option_map (λ x. cond (is_within first count q) (change x) x) (finmap.get m q)
  unfolding change_within
  get-change_within change m first count q = get-map_entries (λ page x. cond (is_within first count page) (change x) x) m q

  -- ---- a run that grows by a page

  pub set_none : (t : Table X) (first : ℕ) (x : X) → set_within t first (first - first) x ≡ t
  set_none t first x = same_table _ _ (λ q. get-set_within t first (first - first) x q ∙ ap (λ b. cond b (Some x) (finmap.get t q)) (within_none first q))

  pub set_more : (t : Table X) (first k : ℕ) (x : X) → first ≤ k → finmap.insert (set_within t first (k - first) x) k x ≡ set_within t first (k + 1 - first) x
  set_more t first k x le = same_table _ _ (λ q. get_put (set_within t first (k - first) x) k x q ∙ ap (cond (nat_eq q k) (Some x)) (get-set_within t first (k - first) x q)
      ∙ cond-or (nat_eq q k) (is_within first (k - first) q) x (finmap.get t q) ∙ ap (λ b. cond b (Some x) (finmap.get t q)) (sym (within_more first k q le)) ∙ sym (get-set_within t first (k + 1 - first) x q))

  change_by : (change : X → X) (o : Option X) (here before : Bool) → (here ≡ true → before ≡ false)
      → (y : X) → (here ≡ true → o ≡ Some y) → cond here (Some (change y)) (option_map (λ x. cond before (change x) x) o) ≡ option_map (λ x. cond (here || before) (change x) x) o
  change_by change o here before apart y is = grind arith

  pub mapped_itself : (o : Option X) → option_map (λ x. x) o ≡ o
  mapped_itself o = grind arith

  -- the page after the run is as it was
  pub change_outside : (change : X → X) (t : Table X) (first k : ℕ) → finmap.get (change_within change t first (k - first)) k ≡ finmap.get t k
  change_outside change t first k = get-change_within change t first (k - first) k ∙ ap (λ b. option_map (λ x. cond b (change x) x) (finmap.get t k)) (stands_not_after first k) ∙ mapped_itself (finmap.get t k)

  pub change_none : (change : X → X) (t : Table X) (first : ℕ) → change_within change t first (first - first) ≡ t
  change_none change t first = same_table _ _ (λ q. get-change_within change t first (first - first) q ∙ ap (λ b. option_map (λ x. cond b (change x) x) (finmap.get t q)) (within_none first q) ∙ mapped_itself (finmap.get t q))

  pub change_more : (change : X → X) (t : Table X) (first k : ℕ) (y : X) → first ≤ k → finmap.get t k ≡ Some y
      → finmap.insert (change_within change t first (k - first)) k (change y) ≡ change_within change t first (k + 1 - first)
  change_more change t first k y le there = same_table _ _ (λ q. get_put (change_within change t first (k - first)) k (change y) q
      ∙ ap (cond (nat_eq q k) (Some (change y))) (get-change_within change t first (k - first) q)
      ∙ change_by change (finmap.get t q) (nat_eq q k) (is_within first (k - first) q) (λ here. apart first k q here) y (λ here. ap (finmap.get t) (same_of q k here) ∙ there)
      ∙ ap (λ b. option_map (λ x. cond b (change x) x) (finmap.get t q)) (sym (within_more first k q le)) ∙ sym (get-change_within change t first (k + 1 - first) q))
    where
      apart : (first k q : ℕ) → nat_eq q k ≡ true → is_within first (k - first) q ≡ false
      apart first k q here = grind (arith, nat_tests)

  stays_by : (change : X → X) (o : Option X) (here before : Bool) → (here ≡ true → o ≡ None) → option_map (λ x. cond before (change x) x) o ≡ option_map (λ x. cond (here || before) (change x) x) o
  stays_by change o here before none = grind arith

  pub change_skips : (change : X → X) (t : Table X) (first k : ℕ) → first ≤ k → finmap.get t k ≡ None → change_within change t first (k - first) ≡ change_within change t first (k + 1 - first)
  change_skips change t first k le none = same_table _ _ (λ q. get-change_within change t first (k - first) q
      ∙ stays_by change (finmap.get t q) (nat_eq q k) (is_within first (k - first) q) (λ here. ap (finmap.get t) (same_of q k here) ∙ none)
      ∙ ap (λ b. option_map (λ x. cond b (change x) x) (finmap.get t q)) (sym (within_more first k q le)) ∙ sym (get-change_within change t first (k + 1 - first) q))

  -- ---- a run that is taken out

  not_some : (o : Option X) → (IsSome o → ⊥) → o ≡ None
  not_some o never = grind arith

  -- outside of the run nothing changed, and in it nothing is left
  pub removed_run : (old now : Table X) (first count : ℕ) → ((q : ℕ) → is_within first count q ≡ false → finmap.get now q ≡ finmap.get old q)
      → ((q : ℕ) → is_within first count q ≡ true → IsSome (finmap.get now q) → ⊥) → now ≡ remove_within old first count
  removed_run old now first count outside none = same_table _ _ (λ q. at q (is_within first count q) refl ∙ sym (get-remove_within old first count q))
    where
      at : (q : ℕ) (b : Bool) → is_within first count q ≡ b → finmap.get now q ≡ cond (is_within first count q) None (finmap.get old q)
      at q true here = not_some (finmap.get now q) (none q here) ∙ ap (λ b. cond b None (finmap.get old q)) (sym here)
      at q false there = outside q there ∙ ap (λ b. cond b None (finmap.get old q)) (sym there)

  pub still_outside : (old now : Table X) (p first count : ℕ) → is_within first count p ≡ true
      → ((q : ℕ) → is_within first count q ≡ false → finmap.get now q ≡ finmap.get old q)
      → (q : ℕ) → is_within first count q ≡ false → finmap.get (finmap.remove now p) q ≡ finmap.get old q
  still_outside old now p first count within was q outside =
      get_removed now p q ∙ taken_by (nat_eq q p) (finmap.get now q) (λ here. absurd (apart here)) ∙ was q outside
    where
      apart : nat_eq q p ≡ true → ⊥
      apart here = absurd (let f : true ≡ false = sym within ∙ ap (is_within first count) (sym (same_of q p here)) ∙ outside in cc)

-- ---- a copy, page by page

abbrev pub Entries : Type 0
Entries = List (ℕ × SnapshotPage)

abbrev pub first_of : Option Page → Option Page → Option Page
first_of None o = o
first_of (Some page) o = Some page

-- what was copied and the rest have together what there is
pub record IsCopied (all rest copy : Entries) : Type 0 where
  pub rises : IsStrictlySortedBy nat_cmp (keys_of rest)
  pub same : (q : ℕ) → finmap.get (space_of all) q ≡ first_of (option_map page_of_snapshot (lookup (is_at (nat_cmp q)) rest)) (finmap.get (space_of copy) q)

pub none_copied : (all rest copy : Entries) → rest ≡ all → copy ≡ [] → IsStrictlySortedBy nat_cmp (keys_of all) → IsCopied all rest copy
none_copied all rest copy e none sorted = record {
  rises = subst (λ es. IsStrictlySortedBy nat_cmp (keys_of es)) (sym e) sorted;
  same = λ q. get_space all q ∙ ap (λ es. option_map page_of_snapshot (lookup (is_at (nat_cmp q)) es)) (sym e)
      ∙ alone (option_map page_of_snapshot (lookup (is_at (nat_cmp q)) rest))
      ∙ ap (first_of (option_map page_of_snapshot (lookup (is_at (nat_cmp q)) rest))) (sym (ap (λ m. finmap.get m q) (no_pages copy none) ∙ get-empty nat_cmp q));
}
  where
    alone : (o : Option Page) → o ≡ first_of o None
    alone None = refl
    alone (Some page) = refl

rest_rises : (e : ℕ × SnapshotPage) (es : Entries) → IsStrictlySortedBy nat_cmp (keys_of (e ∷ es)) → IsStrictlySortedBy nat_cmp (keys_of es)
unfolding IsStrictlySortedBy
rest_rises e es h = h.1

less_than : (a b : ℕ) → nat_cmp a b ≡ Less → a < b
less_than a b e = grind (arith, nat_tests)

other_key : (q k : ℕ) → q < k → is_at (nat_cmp q) k ≡ false
other_key q k less = grind (arith, nat_tests)

-- a number below all keys isn't found
not_found : (q : ℕ) (e : ℕ × SnapshotPage) (es : Entries) → q ≤ e.0 → IsStrictlySortedBy nat_cmp (keys_of (e ∷ es)) → lookup (is_at (nat_cmp q)) es ≡ None
unfolding IsStrictlySortedBy
not_found q e [] below sorted = refl
not_found q e (f ∷ es) below sorted =
    let less : e.0 < f.0 = less_than e.0 f.0 sorted.0.0 in
    let here : q < f.0 = omega arith in
    let so : q ≤ f.0 = omega arith in
    ap (λ b. cond b (Some f.1) (lookup (is_at (nat_cmp q)) es)) (other_key q f.0 here) ∙ not_found q f es so (rest_rises e (f ∷ es) sorted)

pub copied_more : (all rest left copy new : Entries) (page : ℕ) (found twin : SnapshotPage) → IsCopied all rest copy → rest ≡ (page, found) ∷ left
    → page_of_snapshot twin ≡ page_of_snapshot found → space_of new ≡ finmap.insert (space_of copy) page (page_of_snapshot twin) → IsCopied all left new
copied_more all rest left copy new page found twin copied e alike put =
    let sorted : IsStrictlySortedBy nat_cmp (keys_of ((page, found) ∷ left)) = subst (λ (es : Entries). IsStrictlySortedBy nat_cmp (keys_of es)) e copied.rises in
    record {
      rises = rest_rises (page, found) left sorted;
      same = λ q. copied.same q ∙ ap (λ (es : Entries). first_of (option_map page_of_snapshot (lookup (is_at (nat_cmp q)) es)) (finmap.get (space_of copy) q)) e
          ∙ moved q sorted (nat_eq q page) refl ∙ ap (first_of (option_map page_of_snapshot (lookup (is_at (nat_cmp q)) left)))
          (ap (λ p. cond (nat_eq q page) (Some p) (finmap.get (space_of copy) q)) (sym alike)
          ∙ sym (ap (λ m. finmap.get m q) put ∙ get_put (space_of copy) page (page_of_snapshot twin) q));
    }
  where
    key_test : (q : ℕ) (b : Bool) → nat_eq q page ≡ b → is_at (nat_cmp q) page ≡ b
    key_test q b e = same_key q page ∙ e

    moved : (q : ℕ) → IsStrictlySortedBy nat_cmp (keys_of ((page, found) ∷ left)) → (b : Bool) → nat_eq q page ≡ b
        → first_of (option_map page_of_snapshot (lookup (is_at (nat_cmp q)) ((page, found) ∷ left))) (finmap.get (space_of copy) q)
        ≡ first_of (option_map page_of_snapshot (lookup (is_at (nat_cmp q)) left)) (cond (nat_eq q page) (Some (page_of_snapshot found)) (finmap.get (space_of copy) q))
    moved q sorted true is =
        let below : q ≤ page = omega (arith, same_of q page is) in
        let gone : lookup (is_at (nat_cmp q)) left ≡ None = not_found q (page, found) left below sorted in
        rw (key_test q true is, is, gone) refl
    moved q sorted false is = rw (key_test q false is, is) refl

pub all_copied : (all rest copy : Entries) → IsCopied all rest copy → rest ≡ [] → space_of copy ≡ space_of all
all_copied all rest copy copied none = same_table _ _ (λ q. sym (copied.same q ∙ ap (λ (es : Entries). first_of (option_map page_of_snapshot (lookup (is_at (nat_cmp q)) es)) (finmap.get (space_of copy) q)) none))

-- ---- spaces of a memory

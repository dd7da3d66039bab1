-- Tables: what is at a page after a change.
use Rattle.std.proofs.Common.{◌≡◌, ℕ, zero, suc, Bool, true, false, not, cond, nat_eq, ◌&&◌, ◌||◌, is_some, List, [], ◌∷◌, ◌++◌, map, length, Option, Some, None, unwrap_or, IsSome, refl, sym, ◌∙◌, ap, subst, inl, inr, arith, T}
use Rattle.std.proofs.lemmas.Bool.Decides.{nat_tests}
use Rattle.std.proofs.lemmas.Bool.{cases_Bool, cond-false}
use Rattle.std.specs.Option.{option_map, option_or}
use Rattle.std.specs.Ordering.{nat_cmp, eq_by_cmp, is_lt}
use Rattle.std.specs.Cmp.{nat_cmp_total}
use Rattle.std.specs.FinMap as finmap
use Rattle.std.specs.FinMap.{find, is_sorted, same_map, get-insert, get-remove, get-empty, get-from_entries, get-from_sorted, get-entries, get-retain_keys, entries_sorted, entries-from_sorted, len-entries, nat_cmp-IsAntisymmetric}
use Rattle.std.specs.FinMap.Entries.{below_all}
use Rattle.std.specs.List.{AllByRecursion}
use Rattle.std.proofs.lemmas.List.{length-map}
use Rattle.std.specs.List.Sorted.{IsStrictlySortedBy}
use Rattle.std.specs.declared.cmp.Ordering.TheVariants.{Less}
use Rattle.std.specs.Map.{lookup}
use Rattle.std.specs.BTreeMap.{is_at}
use Rattle.sd_areas.specs.Pages.{pages_from, is_within}
use Rattle.sd_pagetable.specs.Nested.{Table, Nested, inside, map_entries, map_values, set_within, remove_within, change_within, fill_within}

pub same_test : (a b : ℕ) → eq_by_cmp nat_cmp a b ≡ nat_eq a b
same_test a b = grind (arith, nat_tests)

pub turned_test : (a b : ℕ) → eq_by_cmp nat_cmp a b ≡ nat_eq b a
turned_test a b = grind (arith, nat_tests)

pub tied : (a b : ℕ) → eq_by_cmp nat_cmp a b ≡ true → a ≡ b
tied a b is = grind (arith, nat_tests)

module _ {X : Type 0} where
  pub same_table : (m n : Table X) → ((q : ℕ) → finmap.get m q ≡ finmap.get n q) → m ≡ n
  same_table m n is = same_map nat_cmp_total nat_cmp-IsAntisymmetric m n is

  pub get_put : (m : Table X) (k : ℕ) (v : X) (q : ℕ) → finmap.get (finmap.insert m k v) q ≡ cond (nat_eq q k) (Some v) (finmap.get m q)
  get_put m k v q = get-insert nat_cmp_total m k v q ∙ ap (λ b. cond b (Some v) (finmap.get m q)) (same_test q k)

  pub get_removed : (m : Table X) (k q : ℕ) → finmap.get (finmap.remove m k) q ≡ cond (nat_eq q k) None (finmap.get m q)
  get_removed m k q = get-remove nat_cmp_total m k q ∙ ap (λ b. cond b None (finmap.get m q)) (same_test q k)

  -- a map of the code, as a table
  find_lookup : (es : List (ℕ × X)) (q : ℕ) → find nat_cmp q es ≡ lookup (is_at (nat_cmp q)) es
  find_lookup [] q = refl
  find_lookup (e ∷ es) q = ap (cond (eq_by_cmp nat_cmp q e.0) (Some e.1)) (find_lookup es q)

  pub get_tree : (es : List (ℕ × X)) (q : ℕ) → finmap.get (finmap.from_entries {R = nat_cmp} es) q ≡ lookup (is_at (nat_cmp q)) es
  get_tree es q = get-from_entries nat_cmp_total es q ∙ find_lookup es q

module _ {X Y : Type 0} (f : ℕ → X → Y) where
  changed : ℕ × X → ℕ × Y
  changed e = (e.0, f e.0 e.1)

  found_changed : (es : List (ℕ × X)) (q : ℕ) → find nat_cmp q (map (λ (e : ℕ × X). (e.0, f e.0 e.1)) es) ≡ option_map (f q) (find nat_cmp q es)
  found_changed [] q = refl
  found_changed (e ∷ es) q = elim (cases_Bool (eq_by_cmp nat_cmp q e.0)) [
    | inl here ↦ ap (λ b. cond b (Some (f e.0 e.1)) (find nat_cmp q (map (λ (e : ℕ × X). (e.0, f e.0 e.1)) es))) here
        ∙ ap (λ k. Some (f k e.1)) (sym (tied q e.0 here)) ∙ ap (λ b. option_map (f q) (cond b (Some e.1) (find nat_cmp q es))) (sym here)
    | inr there ↦ ap (λ b. cond b (Some (f e.0 e.1)) (find nat_cmp q (map (λ (e : ℕ × X). (e.0, f e.0 e.1)) es))) there
        ∙ found_changed es q ∙ ap (λ b. option_map (f q) (cond b (Some e.1) (find nat_cmp q es))) (sym there)
  ]

  pub get-map_entries : (m : Table X) (q : ℕ) → finmap.get (map_entries f m) q ≡ option_map (f q) (finmap.get m q)
  unfolding map_entries
  get-map_entries m q = get-from_entries nat_cmp_total _ q ∙ found_changed (finmap.entries m) q ∙ ap (option_map (f q)) (sym (get-entries m q))

  below_changed : (k : ℕ) (es : List (ℕ × X)) → below_all nat_cmp k (map (λ (e : ℕ × X). (e.0, f e.0 e.1)) es) ≡ below_all nat_cmp k es
  below_changed k [] = refl
  below_changed k (e ∷ es) = ap (λ b. is_lt (nat_cmp k e.0) && b) (below_changed k es)

  pub sorted_changed : (es : List (ℕ × X)) → is_sorted nat_cmp (map (λ (e : ℕ × X). (e.0, f e.0 e.1)) es) ≡ is_sorted nat_cmp es
  sorted_changed [] = refl
  sorted_changed (e ∷ es) = ap (λ b. b && is_sorted nat_cmp (map (λ (e : ℕ × X). (e.0, f e.0 e.1)) es)) (below_changed e.0 es) ∙ ap (λ b. below_all nat_cmp e.0 es && b) (sorted_changed es)

  pub entries-map_entries : (m : Table X) → finmap.entries (map_entries f m) ≡ map (λ (e : ℕ × X). (e.0, f e.0 e.1)) (finmap.entries m)
  unfolding map_entries
  entries-map_entries m =
      let es = map (λ (e : ℕ × X). (e.0, f e.0 e.1)) (finmap.entries m) in
      let sorted : T (is_sorted nat_cmp es) = subst T (sym (sorted_changed (finmap.entries m))) (entries_sorted m) in
      ap finmap.entries (same_table (finmap.from_entries es) (finmap.from_sorted es) (λ q. get-from_entries nat_cmp_total es q ∙ sym (get-from_sorted nat_cmp es q sorted)))
      ∙ entries-from_sorted nat_cmp es sorted

module _ {X Y : Type 0} (f : X → Y) where
  pub get-map_values : (m : Table X) (q : ℕ) → finmap.get (map_values f m) q ≡ option_map f (finmap.get m q)
  unfolding map_values
  get-map_values m q = get-map_entries (λ _ x. f x) m q

  pub entries-map_values : (m : Table X) → finmap.entries (map_values f m) ≡ map (λ (e : ℕ × X). (e.0, f e.1)) (finmap.entries m)
  unfolding map_values
  entries-map_values m = entries-map_entries (λ _ x. f x) m

  pub map_values-empty : map_values f finmap.empty ≡ finmap.empty
  map_values-empty = same_table _ _ (λ q. get-map_values finmap.empty q ∙ ap (option_map f) (get-empty nat_cmp q) ∙ sym (get-empty nat_cmp q))

pub within_next : (first count q : ℕ) → is_within first (suc count) q ≡ (nat_eq q first || is_within (suc first) count q)
within_next first count q = grind (arith, nat_tests)

pub none_within : (first q : ℕ) → is_within first 0 q ≡ false
none_within first q = grind (arith, nat_tests)

alike : (first count q x : ℕ) → q ≡ x → not (is_within first count x) ≡ not (is_within first count q)
alike first count q x e = ap (λ n. not (is_within first count n)) (sym e)

module _ {X : Type 0} where
  cond-or : (a b : Bool) (x : X) (o : Option X) → cond a (Some x) (cond b (Some x) o) ≡ cond (a || b) (Some x) o
  cond-or a b x o = grind arith

  find_run : (first count : ℕ) (x : X) (es : List (ℕ × X)) (q : ℕ) → find nat_cmp q (map (λ page. (page, x)) (pages_from first count) ++ es) ≡ cond (is_within first count q) (Some x) (find nat_cmp q es)
  unfolding pages_from
  find_run first zero x es q = sym (cond-false (is_within first 0 q) (Some x) (find nat_cmp q es) (none_within first q))
  find_run first (suc count) x es q = ap (λ o. cond (eq_by_cmp nat_cmp q first) (Some x) o) (find_run (suc first) count x es q)
      ∙ ap (λ b. cond b (Some x) (cond (is_within (suc first) count q) (Some x) (find nat_cmp q es))) (same_test q first)
      ∙ cond-or (nat_eq q first) (is_within (suc first) count q) x (find nat_cmp q es)
      ∙ ap (λ b. cond b (Some x) (find nat_cmp q es)) (sym (within_next first count q))

  pub get-set_within : (m : Table X) (first count : ℕ) (x : X) (q : ℕ) → finmap.get (set_within m first count x) q ≡ cond (is_within first count q) (Some x) (finmap.get m q)
  unfolding set_within
  get-set_within m first count x q = get-from_entries nat_cmp_total _ q ∙ find_run first count x (finmap.entries m) q ∙ ap (cond (is_within first count q) (Some x)) (sym (get-entries m q))

  find-append : (es fs : List (ℕ × X)) (q : ℕ) → find nat_cmp q (es ++ fs) ≡ option_or (find nat_cmp q es) (find nat_cmp q fs)
  find-append [] fs q = refl
  find-append (e ∷ es) fs q = elim (eq_by_cmp nat_cmp q e.0) as (λ b. cond b (Some e.1) (find nat_cmp q (es ++ fs)) ≡ option_or (cond b (Some e.1) (find nat_cmp q es)) (find nat_cmp q fs)) [ true ↦ refl | false ↦ find-append es fs q ]

  append-nil_run : (first count : ℕ) (x : X) (q : ℕ) → find nat_cmp q (map (λ page. (page, x)) (pages_from first count)) ≡ cond (is_within first count q) (Some x) None
  unfolding pages_from
  append-nil_run first zero x q = sym (cond-false (is_within first 0 q) (Some x) None (none_within first q))
  append-nil_run first (suc count) x q = ap (λ o. cond (eq_by_cmp nat_cmp q first) (Some x) o) (append-nil_run (suc first) count x q)
      ∙ ap (λ b. cond b (Some x) (cond (is_within (suc first) count q) (Some x) None)) (same_test q first)
      ∙ cond-or (nat_eq q first) (is_within (suc first) count q) x None
      ∙ ap (λ b. cond b (Some x) None) (sym (within_next first count q))

  pub get-fill_within : (m : Table X) (first count : ℕ) (x : X) (q : ℕ) → finmap.get (fill_within m first count x) q ≡ option_or (finmap.get m q) (cond (is_within first count q) (Some x) None)
  unfolding fill_within
  get-fill_within m first count x q = get-from_entries nat_cmp_total _ q ∙ find-append (finmap.entries m) _ q
      ∙ ap (λ o. option_or (find nat_cmp q (finmap.entries m)) o) (append-nil_run first count x q) ∙ ap (λ o. option_or o (cond (is_within first count q) (Some x) None)) (sym (get-entries m q))

  not_turned : (b : Bool) (o : Option X) → cond (not b) o None ≡ cond b None o
  not_turned b o = grind arith

  pub get-remove_within : (m : Table X) (first count q : ℕ) → finmap.get (remove_within m first count) q ≡ cond (is_within first count q) None (finmap.get m q)
  unfolding remove_within
  get-remove_within m first count q =
      get-retain_keys m (λ p. not (is_within first count p)) q (λ x e. alike first count q x (nat_cmp-IsAntisymmetric q x e))
      ∙ not_turned (is_within first count q) (finmap.get m q)

  pub get-change_within : (change : X → X) (m : Table X) (first count q : ℕ) → finmap.get (change_within change m first count) q ≡ option_map (λ x. cond (is_within first count q) (change x) x) (finmap.get m q)
  unfolding change_within
  get-change_within change m first count q = get-map_entries (λ page x. cond (is_within first count page) (change x) x) m q

pub not_none : {X : Type 0} (o : Option X) → o ≡ None → IsSome o → ⊥
not_none o e s = grind arith

pub some_of : {X : Type 0} (o : Option X) → IsSome o → (x : X) × (o ≡ Some x)
some_of o s = grind arith

pub none_of : {X : Type 0} (o : Option X) → is_some o ≡ false → o ≡ None
none_of o e = grind arith

-- the table of a space
pub inside_is : {X : Type 0} (m : Nested X) (space : ℕ) (t : Table X) → finmap.get m space ≡ Some t → inside m space ≡ t
inside_is m space t e = ap (λ o. unwrap_or o finmap.empty) e

-- ---- how many entries
module _ {X : Type 0} where
  pub keys_below : (k : ℕ) (es : List (ℕ × X)) → AllByRecursion (λ y. nat_cmp k y ≡ Less) (map (λ (e : ℕ × X). e.0) es) → below_all nat_cmp k es ≡ true
  keys_below k [] h = refl
  keys_below k (e ∷ es) h = ap (λ o. is_lt o && below_all nat_cmp k es) h.0 ∙ keys_below k es h.1

  pub keys_sorted : (es : List (ℕ × X)) → IsStrictlySortedBy nat_cmp (map (λ (e : ℕ × X). e.0) es) → is_sorted nat_cmp es ≡ true
  unfolding IsStrictlySortedBy
  keys_sorted [] h = refl
  keys_sorted (e ∷ es) h = ap (λ b. b && is_sorted nat_cmp es) (keys_below e.0 es h.0) ∙ keys_sorted es h.1

pub len-map_values : {X Y : Type 0} (f : X → Y) (m : Table X) → finmap.len (map_values f m) ≡ finmap.len m
len-map_values f m = len-entries (map_values f m) ∙ ap length (entries-map_values f m) ∙ length-map (finmap.entries m) _ ∙ sym (len-entries m)

pub turned_in : {X Y : Type 0} (b : Bool) (f : X → Y) (v : X) (o : Option X) → option_map f (cond b (Some v) o) ≡ cond b (Some (f v)) (option_map f o)
turned_in b f v o = grind arith

pub map_values-insert : {X Y : Type 0} (f : X → Y) (m : Table X) (k : ℕ) (v : X) → map_values f (finmap.insert m k v) ≡ finmap.insert (map_values f m) k (f v)
map_values-insert f m k v = same_table _ _ (λ q. get-map_values f (finmap.insert m k v) q ∙ ap (option_map f) (get_put m k v q) ∙ turned_in (nat_eq q k) f v (finmap.get m q)
    ∙ ap (cond (nat_eq q k) (Some (f v))) (sym (get-map_values f m q)) ∙ sym (get_put (map_values f m) k (f v) q))

pub turned_out : {X Y : Type 0} (b : Bool) (f : X → Y) (o : Option X) → option_map f (cond b None o) ≡ cond b None (option_map f o)
turned_out b f o = grind arith

pub map_values-remove : {X Y : Type 0} (f : X → Y) (m : Table X) (k : ℕ) → map_values f (finmap.remove m k) ≡ finmap.remove (map_values f m) k
map_values-remove f m k = same_table _ _ (λ q. get-map_values f (finmap.remove m k) q ∙ ap (option_map f) (get_removed m k q) ∙ turned_out (nat_eq q k) f (finmap.get m q)
    ∙ ap (cond (nat_eq q k) None) (sym (get-map_values f m q)) ∙ sym (get_removed (map_values f m) k q))

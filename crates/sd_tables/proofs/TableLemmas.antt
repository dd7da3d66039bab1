-- Tables: what is at a page after a change.
use Rattle.std.proofs.Common.{◌≡◌, ℕ, suc, true, false, cond, nat_eq, ◌&&◌, ◌||◌, is_some, List, [], ◌∷◌, map, length, Option, Some, None, unwrap_or, IsSome, refl, sym, ◌∙◌, ap, subst, inl, inr, arith, T}
use Rattle.std.proofs.lemmas.Bool.Decides.{nat_tests}
use Rattle.std.proofs.lemmas.Bool.{cases_Bool, cond-true, eq-eqb}
use Rattle.std.specs.Ordering.{nat_cmp, eq_by_cmp, is_lt}
use Rattle.std.specs.Cmp.{nat_cmp_total}
use Rattle.std.specs.FinMap as finmap
use Rattle.std.specs.FinMap.{find, is_sorted, same_map, get-insert, get-remove, get-empty, get-from_entries, get-from_sorted, len-entries, entries-from_sorted, nat_cmp-IsAntisymmetric}
use Rattle.std.specs.FinMap.Entries.{below_all}
use Rattle.std.specs.List.{AllByRecursion}
use Rattle.std.specs.List.Sorted.{IsStrictlySortedBy}
use Rattle.std.specs.declared.cmp.Ordering.TheVariants.{Less}
use Rattle.std.specs.Map.{lookup}
use Rattle.std.specs.BTreeMap.{is_at}
use Rattle.sd_areas.specs.Pages.{is_within}
use Rattle.sd_tables.specs.Tables.{Table, Nested, inside, value_at}

pub same_test : (a b : ℕ) → eq_by_cmp nat_cmp a b ≡ nat_eq a b
same_test a b = grind (arith, nat_tests)

pub turned_test : (a b : ℕ) → eq_by_cmp nat_cmp a b ≡ nat_eq b a
turned_test a b = grind (arith, nat_tests)

module _ {X : Type 0} where
  pub same_table : (m n : Table X) → ((q : ℕ) → finmap.get m q ≡ finmap.get n q) → m ≡ n
  same_table m n is = same_map nat_cmp_total nat_cmp-IsAntisymmetric m n is

  pub get_put : (m : Table X) (k : ℕ) (v : X) (q : ℕ) → finmap.get (finmap.insert m k v) q ≡ cond (nat_eq q k) (Some v) (finmap.get m q)
  get_put m k v q = get-insert nat_cmp_total m k v q ∙ ap (λ b. cond b (Some v) (finmap.get m q)) (same_test q k)

  pub get_removed : (m : Table X) (k q : ℕ) → finmap.get (finmap.remove m k) q ≡ cond (nat_eq q k) None (finmap.get m q)
  get_removed m k q = get-remove nat_cmp_total m k q ∙ ap (λ b. cond b None (finmap.get m q)) (same_test q k)

  -- a map of the code, as a table
  find_lookup : (es : List (ℕ × X)) (q : ℕ) → find nat_cmp q es ≡ lookup (is_at (nat_cmp q)) es
  find_lookup [] q = refl
  find_lookup (e ∷ es) q = ap (cond (eq_by_cmp nat_cmp q e.0) (Some e.1)) (find_lookup es q)

  pub get_tree : (es : List (ℕ × X)) (q : ℕ) → finmap.get (finmap.from_entries {R = nat_cmp} es) q ≡ lookup (is_at (nat_cmp q)) es
  get_tree es q = get-from_entries nat_cmp_total es q ∙ find_lookup es q

  -- one entry more, or a new value at a key
  pub tree_put : (old new : List (ℕ × X)) (k : ℕ) (v : X) → ((q : ℕ) → lookup (is_at (nat_cmp q)) new ≡ cond (is_at (nat_cmp k) q) (Some v) (lookup (is_at (nat_cmp q)) old)) → finmap.from_entries {R = nat_cmp} new ≡ finmap.insert (finmap.from_entries old) k v
  tree_put old new k v is = same_table _ _ (λ q. get_tree new q ∙ is q ∙ ap (λ b. cond b (Some v) (lookup (is_at (nat_cmp q)) old)) (turned_test k q)
      ∙ ap (cond (nat_eq q k) (Some v)) (sym (get_tree old q)) ∙ sym (get_put (finmap.from_entries old) k v q))

  -- an entry less
  pub tree_removed : (old new : List (ℕ × X)) (k : ℕ) → ((q : ℕ) → lookup (is_at (nat_cmp q)) new ≡ cond (is_at (nat_cmp k) q) None (lookup (is_at (nat_cmp q)) old)) → finmap.from_entries {R = nat_cmp} new ≡ finmap.remove (finmap.from_entries old) k
  tree_removed old new k is = same_table _ _ (λ q. get_tree new q ∙ is q ∙ ap (λ b. cond b None (lookup (is_at (nat_cmp q)) old)) (turned_test k q)
      ∙ ap (cond (nat_eq q k) None) (sym (get_tree old q)) ∙ sym (get_removed (finmap.from_entries old) k q))

pub within_next : (first count q : ℕ) → is_within first (suc count) q ≡ (nat_eq q first || is_within (suc first) count q)
within_next first count q = grind (arith, nat_tests)

pub none_within : (first q : ℕ) → is_within first 0 q ≡ false
none_within first q = grind (arith, nat_tests)

pub not_none : {X : Type 0} (o : Option X) → o ≡ None → IsSome o → ⊥
not_none o e s = grind arith

pub some_of : {X : Type 0} (o : Option X) → IsSome o → (x : X) × (o ≡ Some x)
some_of o s = grind arith

pub none_of : {X : Type 0} (o : Option X) → is_some o ≡ false → o ≡ None
none_of o e = grind arith

-- the table of a space, as the code finds it
pub found_table : {X : Type 0} (es : List (ℕ × Table X)) (m : Nested X) (space : ℕ) (t : Table X) → finmap.from_entries {R = nat_cmp} es ≡ m → Some t ≡ lookup (is_at (nat_cmp space)) es → finmap.get m space ≡ Some t
found_table es m space t v e = ap (λ n. finmap.get n space) (sym v) ∙ get_tree es space ∙ sym e

pub no_table : {X : Type 0} (es : List (ℕ × Table X)) (m : Nested X) (space : ℕ) → finmap.from_entries {R = nat_cmp} es ≡ m → None ≡ lookup (is_at (nat_cmp space)) es → finmap.get m space ≡ None
no_table es m space v e = ap (λ n. finmap.get n space) (sym v) ∙ get_tree es space ∙ sym e

pub inside_is : {X : Type 0} (m : Nested X) (space : ℕ) (t : Table X) → finmap.get m space ≡ Some t → inside m space ≡ t
inside_is m space t e = ap (λ o. unwrap_or o finmap.empty) e

pub none_inside : {X : Type 0} (m : Nested X) (space page : ℕ) → finmap.get m space ≡ None → value_at m space page ≡ None
none_inside m space page e = ap (λ o. finmap.get (unwrap_or o finmap.empty) page) e ∙ get-empty nat_cmp page

pub same_again : {X : Type 0} (m : Table X) (k : ℕ) (v : X) → finmap.get m k ≡ Some v → finmap.insert m k v ≡ m
same_again m k v e = same_table _ _ (λ q. get_put m k v q ∙ at_key q)
  where
    at_key : (q : ℕ) → cond (nat_eq q k) (Some v) (finmap.get m q) ≡ finmap.get m q
    at_key q = elim (cases_Bool (nat_eq q k)) [
      | inl t ↦ ap (λ b. cond b (Some v) (finmap.get m q)) t ∙ sym (ap (finmap.get m) (let e : q ≡ k = grind (arith, nat_tests) in e) ∙ e)
      | inr f ↦ ap (λ b. cond b (Some v) (finmap.get m q)) f
    ]

-- a space's table was changed
pub written : {X : Type 0} (old new : List (ℕ × Table X)) (m : Nested X) (space : ℕ) (t u : Table X) → finmap.from_entries {R = nat_cmp} old ≡ m → t ≡ u →
    ((q : ℕ) → lookup (is_at (nat_cmp q)) new ≡ cond (is_at (nat_cmp space) q) (Some t) (lookup (is_at (nat_cmp q)) old)) → finmap.from_entries {R = nat_cmp} new ≡ finmap.insert m space u
written old new m space t u v e is = tree_put old new space t is ∙ ap (λ n. finmap.insert n space t) v ∙ ap (finmap.insert m space) e

-- a space that has another table has that
pub inside_put : {X : Type 0} (m : Nested X) (space : ℕ) (t : Table X) → inside (finmap.insert m space t) space ≡ t
inside_put m space t = ap (λ o. unwrap_or o finmap.empty) (get_put m space t space ∙ cond-true (nat_eq space space) (Some t) (finmap.get m space) (eq-eqb space space refl))

-- ---- how many entries
module _ {X : Type 0} where
  pub keys_below : (k : ℕ) (es : List (ℕ × X)) → AllByRecursion (λ y. nat_cmp k y ≡ Less) (map (λ (e : ℕ × X). e.0) es) → below_all nat_cmp k es ≡ true
  keys_below k [] h = refl
  keys_below k (e ∷ es) h = ap (λ o. is_lt o && below_all nat_cmp k es) h.0 ∙ keys_below k es h.1

  pub keys_sorted : (es : List (ℕ × X)) → IsStrictlySortedBy nat_cmp (map (λ (e : ℕ × X). e.0) es) → is_sorted nat_cmp es ≡ true
  unfolding IsStrictlySortedBy
  keys_sorted [] h = refl
  keys_sorted (e ∷ es) h = ap (λ b. b && is_sorted nat_cmp es) (keys_below e.0 es h.0) ∙ keys_sorted es h.1

  pub len_tree : (es : List (ℕ × X)) → IsStrictlySortedBy nat_cmp (map (λ (e : ℕ × X). e.0) es) → finmap.len (finmap.from_entries {R = nat_cmp} es) ≡ length es
  len_tree es h =
      let sorted : T (is_sorted nat_cmp es) = subst T (sym (keys_sorted es h)) tt in
      len-entries (finmap.from_entries es) ∙ ap length (ap finmap.entries (same_table (finmap.from_entries es) (finmap.from_sorted es) (λ q. get-from_entries nat_cmp_total es q ∙ sym (get-from_sorted nat_cmp es q sorted)))
      ∙ entries-from_sorted nat_cmp es sorted)

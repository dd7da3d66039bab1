-- What the values of tables weigh together, after a change.
use Rattle.std.proofs.Common.{◌≡◌, ℕ, ◌+◌, ◌<◌, ◌≤◌, Bool, true, cond, nat_eq, List, [], ◌∷◌, length, Option, Some, None, unwrap_or, refl, sym, ◌∙◌, ap, inl, inr, arith, T, sum_by}
use Rattle.std.proofs.lemmas.Bool.Decides.{nat_tests}
use Rattle.std.proofs.lemmas.Bool.{cases_Bool, cases_order, and_parts}
use Rattle.std.proofs.lemmas.List.Sums.{sum_by-cons}
use Rattle.std.specs.Option.{option_map_or}
use Rattle.std.specs.Ordering.{nat_cmp, is_eq, is_lt}
use Rattle.std.specs.declared.cmp.Ordering.TheVariants.{Less, Equal, Greater}
use Rattle.std.specs.Cmp.{nat_cmp_total}
use Rattle.std.specs.FinMap as finmap
use Rattle.std.specs.FinMap.{find, put, is_sorted, entries_sorted, entries-insert, get-entries, len-entries, len-empty}
use Rattle.std.specs.FinMap.Entries.{below_all, by_order}
use Rattle.sd_pagetable.specs.Nested.{Table, Nested, inside, value_at, put_at, remove_at, total, total_within}
use Rattle.sd_pagetable.proofs.TableLemmas.{same_table, get_put, get_removed}

of_T : (b : Bool) → T b → b ≡ true
of_T b h = grind arith

below_less : (a b : ℕ) → is_lt (nat_cmp a b) ≡ true → a < b
below_less a b h = grind (arith, nat_tests)

less_lt : (a b : ℕ) → a < b → nat_cmp a b ≡ Less
less_lt a b h = grind (arith, nat_tests)

same_eq : (a b : ℕ) → a ≡ b → nat_cmp a b ≡ Equal
same_eq a b h = grind (arith, nat_tests)

more_gt : (a b : ℕ) → b < a → nat_cmp a b ≡ Greater
more_gt a b h = grind (arith, nat_tests)

module _ {X : Type 0} (w : X → ℕ) where
  weigh : List (ℕ × X) → ℕ
  weigh es = sum_by (λ (e : ℕ × X). w e.1) es

  weigh-cons : (e : ℕ × X) (es : List (ℕ × X)) → weigh (e ∷ es) ≡ w e.1 + weigh es
  unfolding weigh
  weigh-cons e es = sum_by-cons (λ (e : ℕ × X). w e.1) e es

  -- nothing is found below all keys
  pub none_below : (k b : ℕ) (es : List (ℕ × X)) → k ≤ b → below_all nat_cmp b es ≡ true → find nat_cmp k es ≡ None
  none_below k b [] l h = refl
  none_below k b (e ∷ es) l h =
      let p = and_parts _ _ h in
      let g : b < e.0 = below_less b e.0 p.0 in
      ap (λ o. cond (is_eq o) (Some e.1) (find nat_cmp k es)) (less_lt k e.0 (omega arith)) ∙ none_below k b es l p.1

  weigh_put : (k : ℕ) (v : X) (es : List (ℕ × X)) → is_sorted nat_cmp es ≡ true → weigh (put nat_cmp k v es) + option_map_or w (find nat_cmp k es) 0 ≡ weigh es + w v
  weigh_put k v [] h = (let e = weigh-cons (k, v) [] in omega (arith, e))
  weigh_put k v (e ∷ es) h =
      let p = and_parts _ _ h in
      elim (cases_order k e.0) [
        | inl same ↦
            let c = same_eq k e.0 same in
            let a : weigh (by_order (nat_cmp k e.0) ((k, v) ∷ e ∷ es) ((e.0, v) ∷ es) (e ∷ put nat_cmp k v es)) ≡ w v + weigh es = ap (λ o. weigh (by_order o ((k, v) ∷ e ∷ es) ((e.0, v) ∷ es) (e ∷ put nat_cmp k v es))) c ∙ weigh-cons (e.0, v) es in
            let b : option_map_or w (cond (is_eq (nat_cmp k e.0)) (Some e.1) (find nat_cmp k es)) 0 ≡ w e.1 = ap (λ o. option_map_or w (cond (is_eq o) (Some e.1) (find nat_cmp k es)) 0) c in
            omega (arith, a, b, weigh-cons e es)
        | inr other ↦ elim other [
          | inl less ↦
              let c = less_lt k e.0 less in
              let a : weigh (by_order (nat_cmp k e.0) ((k, v) ∷ e ∷ es) ((e.0, v) ∷ es) (e ∷ put nat_cmp k v es)) ≡ w v + weigh (e ∷ es) = ap (λ o. weigh (by_order o ((k, v) ∷ e ∷ es) ((e.0, v) ∷ es) (e ∷ put nat_cmp k v es))) c ∙ weigh-cons (k, v) (e ∷ es) in
              let b : option_map_or w (cond (is_eq (nat_cmp k e.0)) (Some e.1) (find nat_cmp k es)) 0 ≡ 0 = ap (λ o. option_map_or w (cond (is_eq o) (Some e.1) (find nat_cmp k es)) 0) c ∙ ap (λ o. option_map_or w o 0) (none_below k e.0 es (omega arith) p.0) in
              omega (arith, a, b)
          | inr more ↦
              let c = more_gt k e.0 more in
              let a : weigh (by_order (nat_cmp k e.0) ((k, v) ∷ e ∷ es) ((e.0, v) ∷ es) (e ∷ put nat_cmp k v es)) ≡ w e.1 + weigh (put nat_cmp k v es) = ap (λ o. weigh (by_order o ((k, v) ∷ e ∷ es) ((e.0, v) ∷ es) (e ∷ put nat_cmp k v es))) c ∙ weigh-cons e (put nat_cmp k v es) in
              let b : option_map_or w (cond (is_eq (nat_cmp k e.0)) (Some e.1) (find nat_cmp k es)) 0 ≡ option_map_or w (find nat_cmp k es) 0 = ap (λ o. option_map_or w (cond (is_eq o) (Some e.1) (find nat_cmp k es)) 0) c in
              omega (arith, a, b, weigh-cons e es, weigh_put k v es p.1)
        ]
      ]

  pub total-insert : (m : Table X) (k : ℕ) (v : X) → total w (finmap.insert m k v) + option_map_or w (finmap.get m k) 0 ≡ total w m + w v
  unfolding total weigh
  total-insert m k v =
      let a : sum_by (λ (e : ℕ × X). w e.1) (finmap.entries (finmap.insert m k v)) ≡ sum_by (λ (e : ℕ × X). w e.1) (put nat_cmp k v (finmap.entries m)) = ap (sum_by (λ (e : ℕ × X). w e.1)) (entries-insert nat_cmp_total m k v) in
      let b : option_map_or w (finmap.get m k) 0 ≡ option_map_or w (find nat_cmp k (finmap.entries m)) 0 = ap (λ o. option_map_or w o 0) (get-entries m k) in
      omega (arith, a, b, weigh_put k v (finmap.entries m) (of_T _ (entries_sorted m)))

  -- what is put back where it was
  put_back : (m : Table X) (k : ℕ) (v : X) → finmap.get m k ≡ Some v → finmap.insert (finmap.remove m k) k v ≡ m
  put_back m k v e = same_table _ _ (λ q. get_put (finmap.remove m k) k v q ∙ ap (cond (nat_eq q k) (Some v)) (get_removed m k q) ∙ at_key q)
    where
      at_key : (q : ℕ) → cond (nat_eq q k) (Some v) (cond (nat_eq q k) None (finmap.get m q)) ≡ finmap.get m q
      at_key q = elim (cases_Bool (nat_eq q k)) [
        | inl t ↦ ap (λ b. cond b (Some v) (cond b None (finmap.get m q))) t ∙ sym (ap (finmap.get m) (let e : q ≡ k = grind (arith, nat_tests) in e) ∙ e)
        | inr f ↦ ap (λ b. cond b (Some v) (cond b None (finmap.get m q))) f
      ]

  none_removed : (m : Table X) (k : ℕ) → finmap.get (finmap.remove m k) k ≡ None
  none_removed m k = get_removed m k k ∙ ap (λ b. cond b None (finmap.get m k)) (let e : nat_eq k k ≡ true = grind (arith, nat_tests) in e)

  removed_none : (m : Table X) (k : ℕ) → finmap.get m k ≡ None → finmap.remove m k ≡ m
  removed_none m k e = same_table _ _ (λ q. get_removed m k q ∙ at_key q)
    where
      at_key : (q : ℕ) → cond (nat_eq q k) None (finmap.get m q) ≡ finmap.get m q
      at_key q = elim (cases_Bool (nat_eq q k)) [
        | inl t ↦ ap (λ b. cond b None (finmap.get m q)) t ∙ sym (ap (finmap.get m) (let e : q ≡ k = grind (arith, nat_tests) in e) ∙ e)
        | inr f ↦ ap (λ b. cond b None (finmap.get m q)) f
      ]

  removed_at : (m : Table X) (k : ℕ) (o : Option X) → finmap.get m k ≡ o → total w (finmap.remove m k) + option_map_or w o 0 ≡ total w m
  removed_at m k None e = (let a : total w (finmap.remove m k) ≡ total w m = ap (total w) (removed_none m k e) in omega (arith, a))
  removed_at m k (Some v) e =
      let a = total-insert (finmap.remove m k) k v in
      let b : option_map_or w (finmap.get (finmap.remove m k) k) 0 ≡ 0 = ap (λ o. option_map_or w o 0) (none_removed m k) in
      let c : total w (finmap.insert (finmap.remove m k) k v) ≡ total w m = ap (total w) (put_back m k v e) in
      omega (arith, a, b, c)

  pub total-remove : (m : Table X) (k : ℕ) → total w (finmap.remove m k) + option_map_or w (finmap.get m k) 0 ≡ total w m
  total-remove m k = removed_at m k (finmap.get m k) refl

  pub total-empty : total w finmap.empty ≡ 0
  unfolding total
  total-empty = ap (sum_by (λ (e : ℕ × X). w e.1)) (nothing (finmap.entries finmap.empty) (sym (len-entries finmap.empty) ∙ len-empty nat_cmp X))
    where
      nothing : (es : List (ℕ × X)) → length es ≡ 0 → es ≡ []
      nothing [] e = refl
      nothing (x ∷ es) e = absurd (omega arith)

  pub total_ge : (m : Table X) (k : ℕ) (v : X) → finmap.get m k ≡ Some v → w v ≤ total w m
  total_ge m k v e = (let a : option_map_or w (finmap.get m k) 0 ≡ w v = ap (λ o. option_map_or w o 0) e in omega (arith, a, total-remove m k))

module _ {X : Type 0} (w : X → ℕ) where
  of_inside : (o : Option (Table X)) → option_map_or (total w) o 0 ≡ total w (unwrap_or o finmap.empty)
  of_inside None = sym (total-empty w)
  of_inside (Some t) = refl

  pub total_within-insert : (m : Nested X) (s : ℕ) (t : Table X) → total_within w (finmap.insert m s t) + total w (inside m s) ≡ total_within w m + total w t
  unfolding total_within
  total_within-insert m s t = (let a = of_inside (finmap.get m s) in let b = total-insert (total w) m s t in omega (arith, a, b))

  pub total_within-remove_space : (m : Nested X) (s : ℕ) → total_within w (finmap.remove m s) + total w (inside m s) ≡ total_within w m
  unfolding total_within
  total_within-remove_space m s = (let a = of_inside (finmap.get m s) in let b = total-remove (total w) m s in omega (arith, a, b))

  pub total_within-put : (m : Nested X) (s p : ℕ) (x : X) → total_within w (put_at m s p x) + option_map_or w (value_at m s p) 0 ≡ total_within w m + w x
  unfolding put_at
  total_within-put m s p x = omega (arith, total_within-insert m s (finmap.insert (inside m s) p x), total-insert w (inside m s) p x)

  pub total_within-remove : (m : Nested X) (s p : ℕ) → total_within w (remove_at m s p) + option_map_or w (value_at m s p) 0 ≡ total_within w m
  unfolding remove_at
  total_within-remove m s p = omega (arith, total_within-insert m s (finmap.remove (inside m s) p), total-remove w (inside m s) p)

  pub total_within_ge : (m : Nested X) (s p : ℕ) (x : X) → value_at m s p ≡ Some x → w x ≤ total_within w m
  total_within_ge m s p x e = (let a : option_map_or w (value_at m s p) 0 ≡ w x = ap (λ o. option_map_or w o 0) e in omega (arith, a, total_within-remove m s p))

  pub total_within-empty : total_within w finmap.empty ≡ 0
  unfolding total_within
  total_within-empty = total-empty (total w)

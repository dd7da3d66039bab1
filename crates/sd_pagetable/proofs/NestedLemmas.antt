-- Tables of tables: what each space has at a page after a change.
use Rattle.std.proofs.Common.{◌≡◌, ℕ, Bool, true, cond, nat_eq, ◌&&◌, ◌||◌, is_some, Option, Some, None, unwrap_or, refl, sym, ◌∙◌, ap, arith}
use Rattle.std.proofs.lemmas.Bool.Decides.{nat_tests}
use Rattle.std.specs.Option.{option_map}
use Rattle.std.specs.Ordering.{nat_cmp}
use Rattle.std.specs.FinMap as finmap
use Rattle.std.specs.FinMap.{get-empty}
use Rattle.sd_pagetable.specs.Nested.{Table, Nested, map_values, inside, value_at, is_alive, put_at, remove_at}
use Rattle.sd_pagetable.proofs.TableLemmas.{same_table, get_put, get_removed, get-map_values, map_values-empty}

pub tests : (a b : ℕ) → nat_eq a b ≡ true → a ≡ b
tests a b e = grind (arith, nat_tests)

module _ {X : Type 0} where
  same_inner : (a b : Option (Table X)) → is_some a ≡ is_some b → ((p : ℕ) → finmap.get (unwrap_or a finmap.empty) p ≡ finmap.get (unwrap_or b finmap.empty) p) → a ≡ b
  same_inner a b e h = grind (arith, same_table)

  -- the same spaces alive, with the same at each page
  pub same_nested : (m n : Nested X) → ((s : ℕ) → is_alive m s ≡ is_alive n s) → ((s p : ℕ) → value_at m s p ≡ value_at n s p) → m ≡ n
  same_nested m n alive same = same_table m n (λ s. same_inner (finmap.get m s) (finmap.get n s) (alive s) (same s))

  unwrapped : (b : Bool) (t : Table X) (o : Option (Table X)) → unwrap_or (cond b (Some t) o) finmap.empty ≡ cond b t (unwrap_or o finmap.empty)
  unwrapped b t o = grind arith

  or_some : (b : Bool) (t : Table X) (o : Option (Table X)) → is_some (cond b (Some t) o) ≡ (b || is_some o)
  or_some b t o = grind arith

  pub inside-insert : (m : Nested X) (s : ℕ) (t : Table X) (q : ℕ) → inside (finmap.insert m s t) q ≡ cond (nat_eq q s) t (inside m q)
  inside-insert m s t q = ap (λ o. unwrap_or o finmap.empty) (get_put m s t q) ∙ unwrapped (nat_eq q s) t (finmap.get m q)

  pub alive-insert : (m : Nested X) (s : ℕ) (t : Table X) (q : ℕ) → is_alive (finmap.insert m s t) q ≡ (nat_eq q s || is_alive m q)
  alive-insert m s t q = ap is_some (get_put m s t q) ∙ or_some (nat_eq q s) t (finmap.get m q)

  got : (b : Bool) (t u : Table X) (p : ℕ) → finmap.get (cond b t u) p ≡ cond b (finmap.get t p) (finmap.get u p)
  got b t u p = grind arith

  pub value_at-insert : (m : Nested X) (s : ℕ) (t : Table X) (q p : ℕ) → value_at (finmap.insert m s t) q p ≡ cond (nat_eq q s) (finmap.get t p) (value_at m q p)
  value_at-insert m s t q p = ap (λ u. finmap.get u p) (inside-insert m s t q) ∙ got (nat_eq q s) t (inside m q) p

  both : (a b : Bool) (x y z : Option X) → (a ≡ true → z ≡ y) → cond a (cond b x z) y ≡ cond (a && b) x y
  both a b x y z e = grind arith

  same_value : (m : Nested X) (s q r : ℕ) → nat_eq q s ≡ true → value_at m s r ≡ value_at m q r
  same_value m s q r e = ap (λ k. value_at m k r) (sym (tests q s e))

  pub value_at-put : (m : Nested X) (s p : ℕ) (x : X) (q r : ℕ) → value_at (put_at m s p x) q r ≡ cond (nat_eq q s && nat_eq r p) (Some x) (value_at m q r)
  unfolding put_at
  value_at-put m s p x q r = grind (arith, get_put)

  pub value_at-remove : (m : Nested X) (s p : ℕ) (q r : ℕ) → value_at (remove_at m s p) q r ≡ cond (nat_eq q s && nat_eq r p) None (value_at m q r)
  unfolding remove_at
  value_at-remove m s p q r = value_at-insert m s (finmap.remove (inside m s) p) q r
      ∙ ap (λ o. cond (nat_eq q s) o (value_at m q r)) (get_removed (inside m s) p r)
      ∙ both (nat_eq q s) (nat_eq r p) None (value_at m q r) (value_at m s r) (same_value m s q r)

  pub alive-put : (m : Nested X) (s p : ℕ) (x : X) (q : ℕ) → is_alive (put_at m s p x) q ≡ (nat_eq q s || is_alive m q)
  unfolding put_at
  alive-put m s p x q = alive-insert m s (finmap.insert (inside m s) p x) q

  pub alive-remove : (m : Nested X) (s p q : ℕ) → is_alive (remove_at m s p) q ≡ (nat_eq q s || is_alive m q)
  unfolding remove_at
  alive-remove m s p q = alive-insert m s (finmap.remove (inside m s) p) q

  -- a space with a page is alive
  alive_inner : (o : Option (Table X)) (p : ℕ) (x : X) → finmap.get (unwrap_or o finmap.empty) p ≡ Some x → is_some o ≡ true
  alive_inner None p x e = absurd (let f : None ≡ Some x = sym (get-empty nat_cmp p) ∙ e in cc)
  alive_inner (Some t) p x e = refl

  pub alive_at : (m : Nested X) (s p : ℕ) (x : X) → value_at m s p ≡ Some x → is_alive m s ≡ true
  alive_at m s p x e = alive_inner (finmap.get m s) p x e

  absorbed : (m : Nested X) (s q : ℕ) → is_alive m s ≡ true → (nat_eq q s || is_alive m q) ≡ is_alive m q
  absorbed m s q h = grind arith

  pub alive-put_same : (m : Nested X) (s p : ℕ) (x : X) (q : ℕ) → is_alive m s ≡ true → is_alive (put_at m s p x) q ≡ is_alive m q
  alive-put_same m s p x q h = alive-put m s p x q ∙ absorbed m s q h

  pub alive-remove_same : (m : Nested X) (s p q : ℕ) → is_alive m s ≡ true → is_alive (remove_at m s p) q ≡ is_alive m q
  alive-remove_same m s p q h = alive-remove m s p q ∙ absorbed m s q h

module _ {X Y : Type 0} (f : X → Y) where
  seen_inner : (o : Option (Table X)) → unwrap_or (option_map (map_values f) o) finmap.empty ≡ map_values f (unwrap_or o finmap.empty)
  seen_inner o = grind (arith, map_values-empty)

  pub inside-map : (m : Nested X) (s : ℕ) → inside (map_values (map_values f) m) s ≡ map_values f (inside m s)
  inside-map m s = ap (λ o. unwrap_or o finmap.empty) (get-map_values (map_values f) m s) ∙ seen_inner (finmap.get m s)

  pub value_at-map : (m : Nested X) (s p : ℕ) → value_at (map_values (map_values f) m) s p ≡ option_map f (value_at m s p)
  value_at-map m s p = ap (λ t. finmap.get t p) (inside-map m s) ∙ get-map_values f (inside m s) p

  some_seen : (o : Option (Table X)) → is_some (option_map (map_values f) o) ≡ is_some o
  some_seen o = grind arith

  pub alive-map : (m : Nested X) (s : ℕ) → is_alive (map_values (map_values f) m) s ≡ is_alive m s
  alive-map m s = ap is_some (get-map_values (map_values f) m s) ∙ some_seen (finmap.get m s)

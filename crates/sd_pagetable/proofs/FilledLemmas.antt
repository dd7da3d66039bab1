-- Tables that are filled from entries whose keys rise, one entry after the other.
use Rattle.std.proofs.Common.{◌≡◌, ℕ, ◌+◌, ◌≤◌, Bool, cond, nat_eq, List, [], ◌∷◌, map, Option, Some, None, refl, sym, ◌∙◌, ap, inl, inr, arith}
use Rattle.std.proofs.lemmas.Bool.{cases_Bool, eq-eqb}
use Rattle.std.specs.Option.{option_map, option_map_or, option_or}
use Rattle.std.specs.Ordering.{nat_cmp, eq_by_cmp}
use Rattle.std.specs.Cmp.{nat_cmp_total}
use Rattle.std.specs.FinMap as finmap
use Rattle.std.specs.FinMap.{find, get-empty, get-from_entries}
use Rattle.std.specs.List.Sorted.{IsStrictlySortedBy}
use Rattle.std.specs.Map.{keys_of}
use Rattle.sd_pagetable.specs.Nested.{Table, total}
use Rattle.sd_pagetable.proofs.NestedLemmas.{tests}
use Rattle.sd_pagetable.proofs.TableLemmas.{same_table, same_test, get_put, keys_below}
use Rattle.sd_pagetable.proofs.TotalLemmas.{none_below, total-insert, total-empty}

-- the keys of the entries rise
abbrev pub Rises : {X : Type 0} → List (ℕ × X) → Type 0
Rises es = IsStrictlySortedBy nat_cmp (keys_of es)

-- no key of the entries is in the table
abbrev pub IsApart : {X Y : Type 0} → Table Y → List (ℕ × X) → Type 0
IsApart {X} t es = (q : ℕ) (x : X) → find nat_cmp q es ≡ Some x → finmap.get t q ≡ None

module _ {X : Type 0} where
  pub rest_rises : (e : ℕ × X) (es : List (ℕ × X)) → Rises (e ∷ es) → Rises es
  unfolding IsStrictlySortedBy
  rest_rises e es h = h.1

  -- a key comes once
  none_again : (e : ℕ × X) (es : List (ℕ × X)) → Rises (e ∷ es) → find nat_cmp e.0 es ≡ None
  unfolding IsStrictlySortedBy
  none_again e es h = none_below (λ _. 0) e.0 e.0 es (omega arith) (keys_below e.0 es h.0)

  pub apart_empty : {Y : Type 0} (es : List (ℕ × X)) → IsApart {X = X} {Y = Y} finmap.empty es
  apart_empty es q x h = get-empty nat_cmp q

  -- the first entry's key isn't in the table
  pub apart_head : {Y : Type 0} (t : Table Y) (e : ℕ × X) (es : List (ℕ × X)) → IsApart t (e ∷ es) → finmap.get t e.0 ≡ None
  apart_head t e es h = h e.0 e.1 (ap (λ b. cond b (Some e.1) (find nat_cmp e.0 es)) (same_test e.0 e.0 ∙ eq-eqb e.0 e.0 refl))

module _ {X Y : Type 0} (f : X → Y) where
  -- the entries put into a table in turn
  abbrev pub filled : Table Y → List (ℕ × X) → Table Y
  filled t [] = t
  filled t (e ∷ es) = filled (finmap.insert t e.0 (f e.1)) es

  -- what they weigh together
  abbrev pub weigh : (Y → ℕ) → List (ℕ × X) → ℕ
  weigh w [] = 0
  weigh w (e ∷ es) = w (f e.1) + weigh w es

  pub apart_next : (t : Table Y) (e : ℕ × X) (es : List (ℕ × X)) → Rises (e ∷ es) → IsApart t (e ∷ es) → IsApart (finmap.insert t e.0 (f e.1)) es
  apart_next t e es rises apart q x h = elim (cases_Bool (nat_eq q e.0)) [
    | inl here ↦ absurd (let n : None ≡ Some x = sym (none_again e es rises) ∙ ap (λ k. find nat_cmp k es) (sym (tests q e.0 here)) ∙ h in cc)
    | inr there ↦ get_put t e.0 (f e.1) q ∙ ap (λ b. cond b (Some (f e.1)) (finmap.get t q)) there
        ∙ apart q x (ap (λ b. cond b (Some e.1) (find nat_cmp q es)) (same_test q e.0 ∙ there) ∙ h)
  ]

  pub get-filled : (t : Table Y) (es : List (ℕ × X)) → Rises es → (q : ℕ) → finmap.get (filled t es) q ≡ option_or (option_map f (find nat_cmp q es)) (finmap.get t q)
  get-filled t [] rises q = refl
  get-filled t (e ∷ es) rises q = get-filled (finmap.insert t e.0 (f e.1)) es (rest_rises e es rises) q
      ∙ ap (option_or (option_map f (find nat_cmp q es))) (get_put t e.0 (f e.1) q) ∙ at_key
    where
      at_key : option_or (option_map f (find nat_cmp q es)) (cond (nat_eq q e.0) (Some (f e.1)) (finmap.get t q)) ≡ option_or (option_map f (cond (eq_by_cmp nat_cmp q e.0) (Some e.1) (find nat_cmp q es))) (finmap.get t q)
      at_key = elim (cases_Bool (nat_eq q e.0)) [
        | inl here ↦ ap (λ b. option_or (option_map f (find nat_cmp q es)) (cond b (Some (f e.1)) (finmap.get t q))) here
            ∙ ap (λ o. option_or (option_map f o) (Some (f e.1))) (ap (λ k. find nat_cmp k es) (tests q e.0 here) ∙ none_again e es rises)
            ∙ ap (λ b. option_or (option_map f (cond b (Some e.1) (find nat_cmp q es))) (finmap.get t q)) (sym (same_test q e.0 ∙ here))
        | inr there ↦ ap (λ b. option_or (option_map f (find nat_cmp q es)) (cond b (Some (f e.1)) (finmap.get t q))) there
            ∙ ap (λ b. option_or (option_map f (cond b (Some e.1) (find nat_cmp q es))) (finmap.get t q)) (sym (same_test q e.0 ∙ there))
      ]

  mapped_cond : (b : Bool) (x : X) (o : Option X) → cond b (Some (f x)) (option_map f o) ≡ option_map f (cond b (Some x) o)
  mapped_cond b x o = grind arith

  pub find_seen : (es : List (ℕ × X)) (q : ℕ) → find nat_cmp q (map (λ (e : ℕ × X). (e.0, f e.1)) es) ≡ option_map f (find nat_cmp q es)
  find_seen [] q = refl
  find_seen (e ∷ es) q = ap (cond (eq_by_cmp nat_cmp q e.0) (Some (f e.1))) (find_seen es q) ∙ mapped_cond (eq_by_cmp nat_cmp q e.0) e.1 (find nat_cmp q es)

  or_none : (o : Option Y) → option_or o None ≡ o
  or_none o = grind arith

  -- filled from nothing it is the table of the entries
  pub filled_all : (es : List (ℕ × X)) → Rises es → filled finmap.empty es ≡ finmap.from_entries (map (λ (e : ℕ × X). (e.0, f e.1)) es)
  filled_all es rises = same_table _ _ (λ q. get-filled finmap.empty es rises q ∙ ap (option_or (option_map f (find nat_cmp q es))) (get-empty nat_cmp q) ∙ or_none (option_map f (find nat_cmp q es))
      ∙ sym (find_seen es q) ∙ sym (get-from_entries nat_cmp_total _ q))

  module _ (w : Y → ℕ) where
    total-put : (t : Table Y) (k : ℕ) (y : Y) → finmap.get t k ≡ None → total w (finmap.insert t k y) ≡ total w t + w y
    total-put t k y h = (let a = total-insert w t k y in let b : option_map_or w (finmap.get t k) 0 ≡ 0 = ap (λ o. option_map_or w o 0) h in omega (arith, a, b))

    pub total-filled : (t : Table Y) (es : List (ℕ × X)) → Rises es → IsApart t es → total w (filled t es) ≡ total w t + weigh w es
    total-filled t [] rises apart = omega arith
    total-filled t (e ∷ es) rises apart =
        let a = total-filled (finmap.insert t e.0 (f e.1)) es (rest_rises e es rises) (apart_next t e es rises apart) in
        let b = total-put t e.0 (f e.1) (apart_head t e es apart) in
        omega (arith, a, b)

    -- the first entry takes its part of the whole
    pub head_within : (t : Table Y) (e : ℕ × X) (es : List (ℕ × X)) → Rises (e ∷ es) → IsApart t (e ∷ es) → total w t + w (f e.1) ≤ total w (filled t (e ∷ es))
    head_within t e es rises apart = (let a = total-filled t (e ∷ es) rises apart in omega (arith, a))

    -- the entries' own weight
    pub total_seen : (es : List (ℕ × X)) → Rises es → total w (finmap.from_entries (map (λ (e : ℕ × X). (e.0, f e.1)) es)) ≡ weigh w es
    total_seen es rises = (let a = total-filled finmap.empty es rises (apart_empty es) in let b = ap (total w) (filled_all es rises) in let c = total-empty w in omega (arith, a, b, c))

-- The entries of a map, walked in order: what is left of them, and where a key stands.
use Rattle.std.proofs.Common.{◌≡◌, ℕ, ◌<◌, ◌≤◌, Bool, true, false, cond, nat_eq, List, [], ◌∷◌, Some, None, refl, sym, ◌∙◌, ap, subst, arith}
use Rattle.std.proofs.lemmas.Bool.Decides.{nat_tests}
use Rattle.std.specs.Ordering.{nat_cmp}
use Rattle.std.specs.BTreeMap.{is_at}
use Rattle.std.specs.List.Sorted.{IsStrictlySortedBy}
use Rattle.std.specs.Map.{lookup, keys_of}
use Rattle.std.specs.declared.cmp.Ordering.TheVariants.{Less}
use Rattle.sd_fold.proofs.Tables.{same_of, same_key}

less_than : (a b : ℕ) → nat_cmp a b ≡ Less → a < b
less_than a b e = grind (arith, nat_tests)

other_key : (q k : ℕ) → q < k → is_at (nat_cmp q) k ≡ false
other_key q k less = grind (arith, nat_tests)

at_own : (k : ℕ) → is_at (nat_cmp k) k ≡ true
at_own k = grind (arith, nat_tests)

module _ {X : Type 0} where
  -- the keys rise
  abbrev pub Rising : List (ℕ × X) → Type 0
  Rising es = IsStrictlySortedBy nat_cmp (keys_of es)

  rest_rises : (e : ℕ × X) (es : List (ℕ × X)) → Rising (e ∷ es) → Rising es
  unfolding IsStrictlySortedBy
  rest_rises e es h = h.1

  -- a number that isn't above the first key isn't one of the others
  not_found : (q : ℕ) (e : ℕ × X) (es : List (ℕ × X)) → q ≤ e.0 → Rising (e ∷ es) → lookup (is_at (nat_cmp q)) es ≡ None
  unfolding IsStrictlySortedBy
  not_found q e [] below sorted = refl
  not_found q e (f ∷ es) below sorted =
      let less : e.0 < f.0 = less_than e.0 f.0 sorted.0.0 in
      let here : q < f.0 = omega arith in
      let so : q ≤ f.0 = omega arith in
      ap (λ b. cond b (Some f.1) (lookup (is_at (nat_cmp q)) es)) (other_key q f.0 here) ∙ not_found q f es so (rest_rises e (f ∷ es) sorted)

  pub at_head : (rest left : List (ℕ × X)) (k : ℕ) (x : X) → rest ≡ (k, x) ∷ left → lookup (is_at (nat_cmp k)) rest ≡ Some x
  at_head rest left k x e = ap (lookup (is_at (nat_cmp k))) e ∙ ap (λ b. cond b (Some x) (lookup (is_at (nat_cmp k)) left)) (at_own k)

  pub gone_on : (rest left : List (ℕ × X)) (k : ℕ) (x : X) → Rising rest → rest ≡ (k, x) ∷ left → Rising left
  gone_on rest left k x rises e = rest_rises (k, x) left (subst Rising e rises)

  pub not_left : (rest left : List (ℕ × X)) (k : ℕ) (x : X) → Rising rest → rest ≡ (k, x) ∷ left → lookup (is_at (nat_cmp k)) left ≡ None
  not_left rest left k x rises e =
      let le : k ≤ k = omega arith in
      not_found k (k, x) left le (subst Rising e rises)

  -- a key that isn't the first one's stands where it stood
  pub later : (rest left : List (ℕ × X)) (k q : ℕ) (x : X) → rest ≡ (k, x) ∷ left → nat_eq q k ≡ false → lookup (is_at (nat_cmp q)) rest ≡ lookup (is_at (nat_cmp q)) left
  later rest left k q x e apart = ap (lookup (is_at (nat_cmp q))) e ∙ ap (λ b. cond b (Some x) (lookup (is_at (nat_cmp q)) left)) (same_key q k ∙ apart)

  -- what is still to come isn't the first
  pub still_later : (rest left : List (ℕ × X)) (k q : ℕ) (x y : X) → Rising rest → rest ≡ (k, x) ∷ left → lookup (is_at (nat_cmp q)) left ≡ Some y → nat_eq q k ≡ false
  still_later rest left k q x y rises e found = by (nat_eq q k) refl
    where
      by : (b : Bool) → nat_eq q k ≡ b → b ≡ false
      by false is = refl
      by true is =
          let at : q ≡ k = same_of q k is in
          absurd (let f : None ≡ Some y = sym (not_left rest left k x rises e) ∙ ap (λ n. lookup (is_at (nat_cmp n)) left) (sym at) ∙ found in cc)

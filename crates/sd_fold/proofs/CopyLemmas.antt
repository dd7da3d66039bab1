-- A map that is copied entry by entry.
use Rattle.std.proofs.Common.{◌≡◌, ℕ, List, [], ◌∷◌, ◌++◌, refl, sym, ◌∙◌, ap, subst, arith, append-nil}
use Rattle.std.proofs.lemmas.Bool.Decides.{nat_tests}
use Rattle.std.proofs.lemmas.Map.Keys.{sorted_head, sorted_tail}
use Rattle.std.proofs.lemmas.Map.Made.{keys_of-map_values}
use Rattle.std.specs.BTreeMap.{insert_entry}
use Rattle.std.specs.FinMap as finmap
use Rattle.std.specs.List.{AllByRecursion}
use Rattle.std.specs.List.Sorted.{IsStrictlySortedBy}
use Rattle.std.specs.Map.{keys_of}
use Rattle.std.specs.Ordering.{nat_cmp, match_ordering}
use Rattle.std.specs.declared.cmp.Ordering.TheVariants.{Less, Greater}
use Rattle.sd_fold.proofs.Seen.{Rise, mapped, seen}

turned : (k q : ℕ) → nat_cmp k q ≡ Less → nat_cmp q k ≡ Greater
turned k q less = grind (arith, nat_tests)

head_below : {X : Type 0} (k q : ℕ) (x : X) (es fs : List (ℕ × X)) → AllByRecursion (λ y. nat_cmp k y ≡ Less) (keys_of (es ++ (q, x) ∷ fs)) → nat_cmp k q ≡ Less
head_below k q x [] fs h = h.0
head_below k q x (e ∷ es) fs h = head_below k q x es fs h.1

-- an entry above all others goes to the end
inserted_last : {X : Type 0} (es fs : List (ℕ × X)) (k : ℕ) (x y : X) → Rise (es ++ (k, x) ∷ fs) → insert_entry nat_cmp es k y ≡ es ++ (k, y) ∷ []
inserted_last [] fs k x y rises = refl
inserted_last (e ∷ es) fs k x y rises =
    let above = turned e.0 k (head_below e.0 k x es fs (sorted_head nat_cmp e.0 (keys_of (es ++ (k, x) ∷ fs)) rises)) in
    ap (λ o. match_ordering o ((k, y) ∷ e ∷ es) ((e.0, y) ∷ es) (e ∷ insert_entry nat_cmp es k y)) above
    ∙ ap (λ more. e ∷ more) (inserted_last es fs k x y (sorted_tail nat_cmp e.0 (keys_of (es ++ (k, x) ∷ fs)) rises))

module _ {X Y : Type 0} (f : X → Y) where
  -- what was copied and the rest are together what there is
  pub record IsCopied (all rest copy : List (ℕ × X)) : Type 0 where
    pub rises : Rise all
    pub same : mapped f copy ++ mapped f rest ≡ mapped f all

  keys_joined : (es fs : List (ℕ × X)) → keys_of (mapped f es ++ mapped f fs) ≡ keys_of (es ++ fs)
  keys_joined [] fs = keys_of-map_values f fs
  keys_joined (e ∷ es) fs = ap (λ ks. e.0 ∷ ks) (keys_joined es fs)

  moved : (es fs : List (ℕ × X)) (k : ℕ) (x : X) → mapped f (es ++ (k, x) ∷ []) ++ mapped f fs ≡ mapped f es ++ (k, f x) ∷ mapped f fs
  moved [] fs k x = refl
  moved (e ∷ es) fs k x = ap (λ more. (e.0, f e.1) ∷ more) (moved es fs k x)

  pub copied_more : (all rest left copy new : List (ℕ × X)) (k : ℕ) (found twin : X) → IsCopied all rest copy → rest ≡ (k, found) ∷ left
      → f twin ≡ f found → new ≡ insert_entry nat_cmp copy k twin → IsCopied all left new
  copied_more all rest left copy new k found twin copied e alike put =
      let keys : keys_of all ≡ keys_of (copy ++ (k, found) ∷ left) =
      sym (keys_of-map_values f all) ∙ ap keys_of (sym copied.same) ∙ keys_joined copy rest ∙ ap (λ es. keys_of (copy ++ es)) e in
      let last = inserted_last copy left k found twin (subst (IsStrictlySortedBy nat_cmp) keys copied.rises) in
      record {
        rises = copied.rises;
        same = ap (λ es. mapped f es ++ mapped f left) (put ∙ last) ∙ moved copy left k twin
            ∙ ap (λ y. mapped f copy ++ (k, y) ∷ mapped f left) alike ∙ ap (λ es. mapped f copy ++ mapped f es) (sym e) ∙ copied.same;
      }

  pub all_copied : (all rest copy : List (ℕ × X)) → IsCopied all rest copy → rest ≡ [] → seen f copy ≡ seen f all
  all_copied all rest copy copied none = ap (finmap.from_entries {R = nat_cmp}) (sym (append-nil (mapped f copy)) ∙ ap (λ es. mapped f copy ++ mapped f es) (sym none) ∙ copied.same)

-- Maps of the code, seen entry by entry.
use Rattle.std.proofs.Common.{◌≡◌, ℕ, List, [], ◌∷◌, sym, ◌∙◌, ap, subst}
use Rattle.std.proofs.lemmas.Map.Keys.{sorted_head, sorted_tail}
use Rattle.std.proofs.lemmas.Map.Made.{keys_of-map_values}
use Rattle.std.specs.Cmp.{nat_cmp_total}
use Rattle.std.specs.FinMap as finmap
use Rattle.std.specs.FinMap.{is_sorted, get-from_entries, nat_cmp-IsAntisymmetric}
use Rattle.std.specs.FinMap.Entries.{below_all, same_entries}
use Rattle.std.specs.List.{AllByRecursion}
use Rattle.std.specs.List.Sorted.{IsStrictlySortedBy}
use Rattle.std.specs.Map.{keys_of}
use Rattle.std.specs.Ordering.{nat_cmp, is_lt}
use Rattle.std.specs.Prelude.{T}
use Rattle.std.specs.declared.cmp.Ordering.TheVariants.{Less}
use Rattle.std.proofs.Math.Facts.{yes_and}
pub use Rattle.sd_fold.proofs.Seen.{Rise, mapped, seen, pages_in}

below : {X : Type 0} (k : ℕ) (es : List (ℕ × X)) → AllByRecursion (λ y. nat_cmp k y ≡ Less) (keys_of es) → T (below_all nat_cmp k es)
below k [] h = tt
below k (e ∷ es) h = yes_and _ _ (subst (λ o. T (is_lt o)) (sym h.0) tt) (below k es h.1)

is_in_order : {X : Type 0} (es : List (ℕ × X)) → Rise es → T (is_sorted nat_cmp es)
is_in_order [] h = tt
is_in_order (e ∷ es) h = yes_and _ _ (below e.0 es (sorted_head nat_cmp e.0 (keys_of es) h)) (is_in_order es (sorted_tail nat_cmp e.0 (keys_of es) h))

module _ {X Y : Type 0} (f : X → Y) where
  pub rise_mapped : (es : List (ℕ × X)) → Rise es → Rise (mapped f es)
  rise_mapped es h = subst (IsStrictlySortedBy nat_cmp) (sym (keys_of-map_values f es)) h

  -- equal maps have equal entries
  pub same_mapped : (es fs : List (ℕ × X)) → Rise es → Rise fs → seen f es ≡ seen f fs → mapped f es ≡ mapped f fs
  same_mapped es fs rises others e = same_entries nat_cmp nat_cmp_total nat_cmp-IsAntisymmetric (mapped f es) (mapped f fs)
      (is_in_order (mapped f es) (rise_mapped es rises)) (is_in_order (mapped f fs) (rise_mapped fs others))
      (λ q. sym (get-from_entries nat_cmp_total (mapped f es) q) ∙ ap (λ m. finmap.get m q) e ∙ get-from_entries nat_cmp_total (mapped f fs) q)

-- The order of a catalog's places, kept by its changes.
use Rattle.std.proofs.Common.{◌≡◌, ◌+◌, ℕ, suc, Bool, true, false, cond, nat_eq, not, ◌∷◌, filter, slice_index_or, Option, Some, None, Result, Ok, Err, OnOk, OnErr, refl, sym, ◌∙◌, ap, subst, arith, inl, inr}
use Rattle.std.specs.List.Sorted.{IsSorted, IsSortedByKey}
use Rattle.std.specs.Map.{lookup, keys_of}
use Rattle.std.specs.Ordering.{nat_cmp, is_lt}
use Rattle.std.specs.Cmp.{nat_cmp_total}
use Rattle.std.proofs.lemmas.Cmp.{nat_eq_equiv}
use Rattle.std.proofs.lemmas.Bool.{eqb-true, eq-eqb, ne_eqb, cases_eq}
use Rattle.std.proofs.lemmas.List.Kept.{IsSortedBy-filter}
use Rattle.std.proofs.lemmas.List.Sorted.{ranks_by}
use Rattle.std.proofs.lemmas.Map.Made.{IsDistinct-keys_filter}
use Rattle.std.proofs.lemmas.Map.Entries.{lookup-filter-values, lookup-filter-keys, length-keys_of, option_filter}
use Rattle.sd_chain.specs.Catalog.{Opened, Places, AreInOrder, place_of, Changes, is_elsewhere, without_slot}

-- ---- keys and entries are in one order

key_at : (es : Places) (k : ℕ) (e : ℕ × Option Opened) → slice_index_or (keys_of es) k e.0 ≡ (slice_index_or es k e).0
key_at (x ∷ es) (suc k) e = key_at es k e
key_at _ _ e = refl

pub by_keys : (es : Places) → IsSorted nat_cmp (keys_of es) → IsSortedByKey (λ (e : ℕ × Option Opened). e.0) nat_cmp es
by_keys es h = λ k d low high.
    subst (λ a. is_lt (nat_cmp a (slice_index_or es k d).0) ≡ false) (key_at es (k + 1) d)
    (subst (λ a. is_lt (nat_cmp (slice_index_or (keys_of es) (k + 1) d.0) a) ≡ false) (key_at es k d)
    (h k d.0 low (omega (arith, high, length-keys_of es))))

pub keys_by : (es : Places) → IsSortedByKey (λ (e : ℕ × Option Opened). e.0) nat_cmp es → IsSorted nat_cmp (keys_of es)
keys_by es h = λ k d low high.
    subst (λ a. is_lt (nat_cmp a (slice_index_or (keys_of es) k d)) ≡ false) (sym (key_at es (k + 1) (d, None)))
    (subst (λ a. is_lt (nat_cmp (slice_index_or es (k + 1) (d, None)).0 a) ≡ false) (sym (key_at es k (d, None)))
    (h k (d, None) low (omega (arith, high, length-keys_of es))))

-- ---- what keeps the order

-- an image was put at its serial, or nothing changed: each image still stands at its own
pub own_kept : {A E : Type 0} (r : Result A E) (P : Type 0) (old new : Places) (serial : ℕ) (added : Opened) → AreInOrder old → (P → Changes old new serial (Some (Some added)))
    → OnOk r P → OnErr r (new ≡ old) → added.header.serial ≡ serial → (other : ℕ) (i : Opened) → place_of new other ≡ Some (Some i) → i.header.serial ≡ other
own_kept (Ok x) P old new serial added was changes put same at other i e = by (nat_eq serial other) refl (sym (changes put other) ∙ e)
  where
    by : (b : Bool) → nat_eq serial other ≡ b → cond b (Some (Some added)) (place_of old other) ≡ Some (Some i) → i.header.serial ≡ other
    by true t e =
        let is : added ≡ i = cc in
        ap (λ (i : Opened). i.header.serial) (sym is) ∙ at ∙ eqb-true serial other t
    by false t e = was.own other i e
own_kept (Err x) P old new serial added was changes put same at other i e = was.own other i (subst (λ places. place_of places other ≡ Some (Some i)) same e)

filtered : (p : ℕ × Option Opened → Bool) (es : Places) → AreInOrder es
    → ((serial : ℕ) (i : Opened) → lookup (nat_eq serial) (filter p es) ≡ Some (Some i) → lookup (nat_eq serial) es ≡ Some (Some i))
    → AreInOrder (filter p es)
filtered p es was less = record {
  distinct = IsDistinct-keys_filter nat_eq p es was.distinct;
  sorted = keys_by (filter p es) (IsSortedBy-filter (λ (x y : ℕ × Option Opened). is_lt (nat_cmp x.0 y.0)) (ranks_by nat_cmp_total (λ (e : ℕ × Option Opened). e.0)) p es (by_keys es was.sorted));
  own = λ serial i e. was.own serial i (less serial i e);
}

-- one serial's place taken away
pub without_key : (es : Places) (serial : ℕ) → Changes es (filter (λ e. not (nat_eq e.0 serial)) es) serial None
without_key es serial = λ other. elim (cases_eq serial other) [
  | inl e ↦ lookup-filter-keys (nat_eq other) (λ k. not (nat_eq k serial)) false (λ k is. ap not (eq-eqb k serial (sym (eqb-true other k is) ∙ sym e))) es
      ∙ none (place_of es other) ∙ sym (ap (λ b. cond b None (place_of es other)) (eq-eqb serial other e))
  | inr ne ↦ lookup-filter-keys (nat_eq other) (λ k. not (nat_eq k serial)) true (λ k is. ap not (ne_eqb k serial (λ e. ne (sym e ∙ sym (eqb-true other k is))))) es
      ∙ sym (ap (λ b. cond b None (place_of es other)) (ne_eqb serial other ne))
]
  where
    none : (o : Option (Option Opened)) → cond false o None ≡ None
    none o = refl

kept_other : (b : Bool) (o : Option (Option Opened)) (i : Opened) → cond b None o ≡ Some (Some i) → o ≡ Some (Some i)
kept_other b o i e = grind arith

pub order_without_key : (es : Places) (serial : ℕ) → AreInOrder es → AreInOrder (filter (λ e. not (nat_eq e.0 serial)) es)
order_without_key es serial was = filtered (λ e. not (nat_eq e.0 serial)) es was
    (λ other i e. kept_other (nat_eq serial other) (place_of es other) i (sym (without_key es serial other) ∙ e))

-- a slot's images taken away
as_filter : (slot : ℕ) (o : Option (Option Opened)) → option_filter (is_elsewhere slot) o ≡ without_slot slot o
as_filter slot o = grind arith

pub removed : (es : Places) (slot : ℕ) → AreInOrder es → (serial : ℕ)
    → place_of (filter (λ e. is_elsewhere slot e.1) es) serial ≡ without_slot slot (place_of es serial)
removed es slot was serial = lookup-filter-values nat_eq_equiv (is_elsewhere slot) serial es was.distinct ∙ as_filter slot (place_of es serial)

pub some_stays : (slot : ℕ) (o : Option (Option Opened)) (i : Opened) → without_slot slot o ≡ Some (Some i) → o ≡ Some (Some i)
some_stays slot None i e = absurd (cc)
some_stays slot (Some p) i e = by (is_elsewhere slot p) e
  where
    by : (b : Bool) → cond b (Some p) None ≡ Some (Some i) → Some p ≡ Some (Some i)
    by true e = e
    by false e = absurd (cc)

pub order_without_slot : (es : Places) (slot : ℕ) → AreInOrder es → AreInOrder (filter (λ e. is_elsewhere slot e.1) es)
order_without_slot es slot was = filtered (λ e. is_elsewhere slot e.1) es was
    (λ serial i e. some_stays slot (place_of es serial) i (sym (removed es slot was serial) ∙ e))

-- The table that has at each page what a function says.
use Rattle.std.proofs.Common.{◌≡◌, ℕ, zero, suc, ◌+◌, ◌-◌, ◌<◌, ◌≤◌, Bool, true, false, cond, ◌||◌, nat_eq, nat_le, is_some, IsSome, List, [], ◌∷◌, length, Option, Some, None, refl, sym, ◌∙◌, ap, subst, inl, inr, arith}
use Rattle.std.specs.List.{filter_map, cons_option}
use Rattle.std.specs.Option.{option_map}
use Rattle.std.specs.Ordering.{nat_cmp}
use Rattle.std.specs.Cmp.{nat_cmp_total}
use Rattle.std.specs.FinMap as finmap
use Rattle.std.specs.FinMap.{find, get-empty, get-from_entries, len-empty, len-insert, len-remove, empty_of_len}
use Rattle.std.specs.declared.ops.Bound.{Bound}
use Rattle.std.proofs.lemmas.Bool.{cases_eq, cases_lt, cond-true, cond-false, eqb-true, leb-true, le-leb, lt-leb}
use Rattle.std.proofs.lemmas.Bool.Decides.{nat_tests}
use Rattle.sd_areas.specs.Pages.{pages_from, is_within}
use Rattle.sd_tables.specs.declared.entry.Entry.{Entry}
use Rattle.sd_tables.specs.Firsts.{is_from, first_allowed, IsFirstFrom}
use Rattle.sd_tables.specs.Tables.{Table}
use Rattle.sd_tables.specs.Radix.{table_of, IsFirstAt}
use Rattle.sd_tables.proofs.TableLemmas.{same_table, get_put, get_removed, within_next, none_within, not_none}

module _ (at : ℕ → Option Entry) where
  -- the entry of a page, if it has one
  abbrev entry_at : ℕ → Option (ℕ × Entry)
  entry_at page = option_map (λ entry. (page, entry)) (at page)

  at_key : (first q : ℕ) (o : Option Entry) → at first ≡ o → nat_eq q first ≡ true → at q ≡ o
  at_key first q o e here = ap at (eqb-true q first here) ∙ e

  never : (w : Bool) (o : Option Entry) → o ≡ None → cond w o None ≡ None
  never w o e = grind arith

  one_more : (first q : ℕ) (o : Option Entry) (es : List (ℕ × Entry)) (w : Bool) → at first ≡ o → find nat_cmp q es ≡ cond w (at q) None
      → find nat_cmp q (cons_option (option_map (λ entry. (first, entry)) o) es) ≡ cond (nat_eq q first || w) (at q) None
  one_more first q o es w e h = grind arith

  find_from : (first count q : ℕ) → find nat_cmp q (filter_map entry_at (pages_from first count)) ≡ cond (is_within first count q) (at q) None
  unfolding pages_from
  find_from first zero q = sym (cond-false (is_within first 0 q) (at q) None (none_within first q))
  find_from first (suc count) q = one_more first q (at first) (filter_map entry_at (pages_from (suc first) count)) (is_within (suc first) count q) refl (find_from (suc first) count q)
      ∙ ap (λ b. cond b (at q) None) (sym (within_next first count q))

  pub get-table_of : (limit q : ℕ) → finmap.get (table_of limit at) q ≡ cond (is_within 0 limit q) (at q) None
  unfolding table_of
  get-table_of limit q = get-from_entries nat_cmp_total (filter_map entry_at (pages_from 0 limit)) q ∙ find_from 0 limit q

  -- ---- it has no more pages than the limit
  len_from : (es : List (ℕ × Entry)) → finmap.len (finmap.from_entries {R = nat_cmp} es) ≤ length es
  len_from [] = (let e = len-empty nat_cmp Entry in omega arith)
  len_from (e ∷ es) =
      let l = len_from es in
      let n = len-insert nat_cmp_total (finmap.from_entries es) e.0 e.1 in
      at_most (finmap.contains_key (finmap.from_entries {R = nat_cmp} es) e.0) (finmap.len (finmap.from_entries {R = nat_cmp} es)) (finmap.len (finmap.from_entries {R = nat_cmp} (e ∷ es))) (length es) n l
    where
      at_most : (b : Bool) (n m k : ℕ) → m ≡ cond b n (n + 1) → n ≤ k → m ≤ suc k
      at_most true n m k e l = omega arith
      at_most false n m k e l = omega arith

  length_from : (first count : ℕ) → length (filter_map entry_at (pages_from first count)) ≤ count
  unfolding pages_from
  length_from first zero = omega arith
  length_from first (suc count) = (let l = length_from (suc first) count in at_most (at first) l)
    where
      at_most : (o : Option Entry) → length (filter_map entry_at (pages_from (suc first) count)) ≤ count → length (cons_option (option_map (λ entry. (first, entry)) o) (filter_map entry_at (pages_from (suc first) count))) ≤ suc count
      at_most None l = omega arith
      at_most (Some x) l = omega arith

  pub len_bound : (limit : ℕ) → finmap.len (table_of limit at) ≤ limit
  unfolding table_of
  len_bound limit = (let a = len_from (filter_map entry_at (pages_from 0 limit)) in let b = length_from 0 limit in omega arith)

  pub get_within : (limit q : ℕ) → q < limit → finmap.get (table_of limit at) q ≡ at q
  get_within limit q l = get-table_of limit q ∙ cond-true (is_within 0 limit q) (at q) None (grind (arith, nat_tests))

  pub get_past : (limit q : ℕ) → limit ≤ q → finmap.get (table_of limit at) q ≡ None
  get_past limit q l = get-table_of limit q ∙ cond-false (is_within 0 limit q) (at q) None (grind (arith, nat_tests))

-- as many pages, where the same ones are mapped
module _ (f g : ℕ → Option Entry) (same : (q : ℕ) → is_some (g q) ≡ is_some (f q)) where
  same_there : (w : Bool) (q : ℕ) → is_some (cond w (g q) None) ≡ is_some (cond w (f q) None)
  same_there w q = grind arith

  len_from_same : (first count : ℕ) → finmap.len (finmap.from_entries {R = nat_cmp} (filter_map (entry_at g) (pages_from first count)))
      ≡ finmap.len (finmap.from_entries {R = nat_cmp} (filter_map (entry_at f) (pages_from first count)))
  unfolding pages_from
  len_from_same first zero = len-empty nat_cmp Entry ∙ sym (len-empty nat_cmp Entry)
  len_from_same first (suc count) = by_first (g first) (f first) (same first) (len_from_same (suc first) count)
    where
      rest : (ℕ → Option Entry) → List (ℕ × Entry)
      rest at = filter_map (entry_at at) (pages_from (suc first) count)

      known : (at : ℕ → Option Entry) → finmap.contains_key (finmap.from_entries {R = nat_cmp} (rest at)) first ≡ is_some (cond (is_within (suc first) count first) (at first) None)
      known at = ap is_some (get-from_entries nat_cmp_total (rest at) first ∙ find_from at (suc first) count first)

      by_first : (x y : Option Entry) → is_some x ≡ is_some y → finmap.len (finmap.from_entries {R = nat_cmp} (rest g)) ≡ finmap.len (finmap.from_entries {R = nat_cmp} (rest f))
          → finmap.len (finmap.from_entries {R = nat_cmp} (cons_option (option_map (λ entry. (first, entry)) x) (rest g)))
          ≡ finmap.len (finmap.from_entries {R = nat_cmp} (cons_option (option_map (λ entry. (first, entry)) y) (rest f)))
      by_first None None e more = more
      by_first None (Some y) e more = absurd (let h : false ≡ true = e in cc)
      by_first (Some x) None e more = absurd (let h : true ≡ false = e in cc)
      by_first (Some x) (Some y) e more = len-insert nat_cmp_total (finmap.from_entries (rest g)) first x
          ∙ ap (λ b. cond b (finmap.len (finmap.from_entries {R = nat_cmp} (rest g))) (finmap.len (finmap.from_entries {R = nat_cmp} (rest g)) + 1))
          (known g ∙ same_there (is_within (suc first) count first) first ∙ sym (known f))
          ∙ ap (λ n. cond (finmap.contains_key (finmap.from_entries {R = nat_cmp} (rest f)) first) n (n + 1)) more
          ∙ sym (len-insert nat_cmp_total (finmap.from_entries (rest f)) first y)

  pub len_same : (limit : ℕ) → finmap.len (table_of limit g) ≡ finmap.len (table_of limit f)
  unfolding table_of
  len_same limit = len_from_same 0 limit

module _ (limit : ℕ) (f g : ℕ → Option Entry) where
  pub table_same : ((q : ℕ) → g q ≡ f q) → table_of limit g ≡ table_of limit f
  table_same is = same_table _ _ (λ q. get-table_of g limit q ∙ ap (λ o. cond (is_within 0 limit q) o None) (is q) ∙ sym (get-table_of f limit q))

  both_turned : (w e : Bool) (x : Option Entry) (o : Option Entry) → (e ≡ true → w ≡ true) → cond w (cond e x o) None ≡ cond e x (cond w o None)
  both_turned w e x o h = grind arith

  pub table_put : (k : ℕ) (x : Entry) → k < limit → ((q : ℕ) → g q ≡ cond (nat_eq q k) (Some x) (f q)) → table_of limit g ≡ finmap.insert (table_of limit f) k x
  table_put k x l is = same_table _ _ (λ q. get-table_of g limit q ∙ ap (λ o. cond (is_within 0 limit q) o None) (is q)
      ∙ both_turned (is_within 0 limit q) (nat_eq q k) (Some x) (f q) (λ e. let h : q ≡ k = eqb-true q k e in grind (arith, nat_tests))
      ∙ ap (cond (nat_eq q k) (Some x)) (sym (get-table_of f limit q)) ∙ sym (get_put (table_of limit f) k x q))

  pub table_removed : (k : ℕ) → k < limit → ((q : ℕ) → g q ≡ cond (nat_eq q k) None (f q)) → table_of limit g ≡ finmap.remove (table_of limit f) k
  table_removed k l is = same_table _ _ (λ q. get-table_of g limit q ∙ ap (λ o. cond (is_within 0 limit q) o None) (is q)
      ∙ both_turned (is_within 0 limit q) (nat_eq q k) None (f q) (λ e. let h : q ≡ k = eqb-true q k e in grind (arith, nat_tests))
      ∙ ap (cond (nat_eq q k) None) (sym (get-table_of f limit q)) ∙ sym (get_removed (table_of limit f) k q))

pub table_empty : (limit : ℕ) (f : ℕ → Option Entry) → ((q : ℕ) → f q ≡ None) → table_of limit f ≡ finmap.empty
table_empty limit f is = same_table _ _ (λ q. get-table_of f limit q ∙ nothing (is_within 0 limit q) (f q) (is q) ∙ sym (get-empty nat_cmp q))
  where
    nothing : (w : Bool) (o : Option Entry) → o ≡ None → cond w o None ≡ None
    nothing true o e = e
    nothing false o e = refl

-- ---- how many pages it has, after a change
pub count_bound : (limit : ℕ) (f : ℕ → Option Entry) (count : ℕ) → count ≡ finmap.len (table_of limit f) → count ≤ limit
count_bound limit f count is_count = (let l = len_bound f limit in omega arith)

module _ (limit : ℕ) (f : ℕ → Option Entry) (count k : ℕ) (is_count : count ≡ finmap.len (table_of limit f)) (l : k < limit) where
  has_key : (b : Bool) → is_some (f k) ≡ b → finmap.contains_key (table_of limit f) k ≡ b
  has_key b e = ap is_some (get_within f limit k l) ∙ e

  pub some_count : is_some (f k) ≡ true → 1 ≤ count
  some_count e = elim (cases_eq count 0) [
    | inl z ↦ absurd (let f : false ≡ true = ap is_some (sym (get-empty nat_cmp k)) ∙ ap (λ m. is_some (finmap.get m k)) (sym (empty_of_len (table_of limit f) (sym is_count ∙ z))) ∙ has_key true e in cc)
    | inr n ↦ omega arith
  ]

  module _ (g : ℕ → Option Entry) where
    module _ (x : Entry) (is : (q : ℕ) → g q ≡ cond (nat_eq q k) (Some x) (f q)) where
      len_put : (b : Bool) → is_some (f k) ≡ b → finmap.len (table_of limit g) ≡ cond b count (count + 1)
      len_put b e = ap finmap.len (table_put limit f g k x l is) ∙ len-insert nat_cmp_total (table_of limit f) k x
          ∙ ap (λ c. cond c (finmap.len (table_of limit f)) (finmap.len (table_of limit f) + 1)) (has_key b e) ∙ ap (λ n. cond b n (n + 1)) (sym is_count)

      pub count_more : is_some (f k) ≡ false → count + 1 ≡ finmap.len (table_of limit g)
      count_more e = sym (len_put false e)

      pub count_same : is_some (f k) ≡ true → count ≡ finmap.len (table_of limit g)
      count_same e = sym (len_put true e)

    module _ (is : (q : ℕ) → g q ≡ cond (nat_eq q k) None (f q)) where
      len_removed : (b : Bool) → is_some (f k) ≡ b → finmap.len (table_of limit g) ≡ cond b (count - 1) count
      len_removed b e = ap finmap.len (table_removed limit f g k l is) ∙ len-remove nat_cmp_total (table_of limit f) k
          ∙ ap (λ c. cond c (finmap.len (table_of limit f) - 1) (finmap.len (table_of limit f))) (has_key b e) ∙ ap (λ n. cond b (n - 1) n) (sym is_count)

      pub count_less : is_some (f k) ≡ true → count - 1 ≡ finmap.len (table_of limit g)
      count_less e = sym (len_removed true e)

      pub count_kept : is_some (f k) ≡ false → count ≡ finmap.len (table_of limit g)
      count_kept e = sym (len_removed false e)

-- ---- where a page is mapped, its entry is put for sure
module _ (limit : ℕ) (f : ℕ → Option Entry) (k page : ℕ) (same : k ≡ page) (l : k < limit) (t : Table Entry) (is : table_of limit f ≡ t) (there : IsSome (finmap.get t page)) where
  pub some_there : is_some (f k) ≡ true
  some_there = ap is_some (sym (get_within f limit k l) ∙ ap (λ m. finmap.get m k) is ∙ ap (finmap.get t) same) ∙ there

-- ---- the first page from a bound on
from_is : (start : Bound ℕ) (page : ℕ) → is_from start page ≡ nat_le (first_allowed start) page
from_is start page = grind arith

module _ (limit span : ℕ) (at : ℕ → Option Entry) (start : Bound ℕ) where
  some_below : (page : ℕ) → IsSome (finmap.get (table_of limit at) page) → page < limit
  some_below page some = elim (cases_lt page limit) [
    | inl l ↦ l
    | inr g ↦ absurd (not_none (finmap.get (table_of limit at) page) (get_past at limit page g) some)
  ]

  reached : (page : ℕ) → is_from start page ≡ true → first_allowed start ≤ page
  reached page e = (let h : nat_le (first_allowed start) page ≡ true = sym (from_is start page) ∙ e in leb-true (first_allowed start) page h)

  not_from : (page : ℕ) → (first_allowed start ≤ page → ⊥) → is_from start page ≡ false
  not_from page n = from_is start page ∙ lt-leb (first_allowed start) page (omega arith)

  pub first_found : (first : ℕ) (entry : Entry) → first < limit → IsFirstAt span at (first_allowed start) (Some (first, entry)) → IsFirstFrom (table_of limit at) start (Some first)
  first_found first entry l some = (
    ap is_some (get_within at limit first l ∙ some.2),
    from_is start first ∙ le-leb (first_allowed start) first some.0,
    λ page is from. elim (cases_lt page first) [
      | inl b ↦ absurd (not_none (finmap.get (table_of limit at) page) (get_within at limit page (some_below page is) ∙ some.3 page (reached page from) b) is)
      | inr g ↦ g
    ],
  )

  pub first_none : IsFirstAt span at (first_allowed start) None → IsFirstFrom (table_of limit at) start None
  first_none none page is = not_from page (λ l. not_none (finmap.get (table_of limit at) page) (get_within at limit page (some_below page is) ∙ none page l) is)

  pub first_past : (first : ℕ) (entry : Entry) → limit ≤ first → IsFirstAt span at (first_allowed start) (Some (first, entry)) → IsFirstFrom (table_of limit at) start None
  first_past first entry g some page is = not_from page (λ l. not_none (finmap.get (table_of limit at) page)
      (get_within at limit page (some_below page is) ∙ some.3 page l (let b = some_below page is in omega arith)) is)

-- ---- as the code finds it
module _ (limit span : ℕ) (at : ℕ → Option Entry) (start : Bound ℕ) (n : ℕ) (e : n ≡ first_allowed start) (t : Table Entry) (is : table_of limit at ≡ t) where
  pub from_none : IsFirstAt span at n None → IsFirstFrom t start None
  from_none none = subst (λ (m : Table Entry). IsFirstFrom m start None) is (first_none limit span at start (subst (λ k. IsFirstAt span at k None) e none))

  module _ (first : ℕ) (entry : Entry) (some : IsFirstAt span at n (Some (first, entry))) where
    pub from_past : (r : Option ℕ) → r ≡ None → (first < limit → IsSome r) → IsFirstFrom t start None
    from_past r none all = subst (λ (m : Table Entry). IsFirstFrom m start None) is
        (first_past limit span at start first entry (elim (cases_lt first limit) [
          | inl l ↦ absurd (not_none r none (all l))
          | inr g ↦ g
        ]) (subst (λ k. IsFirstAt span at k (Some (first, entry))) e some))

    pub from_some : (page : ℕ) → first < limit → page ≡ first → IsFirstFrom t start (Some page)
    from_some page within value = subst (λ (m : Table Entry). IsFirstFrom m start (Some page)) is
        (first_found limit span at start page entry (subst (λ k. k < limit) (sym value) within)
        (subst (λ k. IsFirstAt span at (first_allowed start) (Some (k, entry))) (sym value) (subst (λ k. IsFirstAt span at k (Some (first, entry))) e some)))

    pub entry_from : (page : ℕ) → first < limit → page ≡ first → finmap.get t page ≡ Some entry
    entry_from page within value = ap (finmap.get t) value ∙ ap (λ m. finmap.get m first) (sym is) ∙ get_within at limit first within ∙ some.2

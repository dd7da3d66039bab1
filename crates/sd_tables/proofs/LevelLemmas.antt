-- A table above the lowest level: what it has at a page, and that it is kept.
use Rattle.std.proofs.Common.{◌≡◌, ℕ, ◌+◌, ◌*◌, ◌/◌, ◌%◌, ◌<◌, ◌≤◌, Bool, true, false, not, cond, ◌&&◌, ◌||◌, nat_eq, is_some, IsSome, List, length, set, get_or, Option, Some, None, refl, sym, ◌∙◌, ap, subst, inl, inr, arith, length-set}
use Rattle.std.specs.Option.{option_and_then}
use Rattle.std.specs.Prelude.{Result, Ok, Err, OnErr}
use Rattle.std.proofs.lemmas.Bool.{cases_eq, cases_lt, eq-eqb, ne_eqb, cond-true, cond-false}
use Rattle.std.proofs.lemmas.Nat.{div-mul-add, mod-mul-add, div-add-mod', le-div}
use Rattle.std.proofs.lemmas.Option.{slice_get-get_or}
use Rattle.std.proofs.Math.Nat.{div-mul-le_self}
use Rattle.sd_tables.specs.declared.entry.Entry.{Entry}
use Rattle.sd_tables.specs.Radix.{is_used, slot_at, inner_table, level_at, HasMappedPage, IsFirstAt, IsFirstInTable, IsNextUsed, IsSlot, IsLevel}
use Rattle.sd_tables.proofs.PlaceLemmas.{got_set, got_other}
use Rattle.sd_tables.proofs.TableLemmas.{some_of, not_none, none_of}

-- ---- a page is its table's place and its place in the table
pub same_page : (span a b : ℕ) → a / span ≡ b / span → a % span ≡ b % span → a ≡ b
same_page span a b q m = sym (div-add-mod' a span) ∙ ap (λ k. k * span + a % span) q ∙ ap (λ r. b / span * span + r) m ∙ div-add-mod' b span

pub div_mono : (span a b : ℕ) → 0 < span → a ≤ b → a / span ≤ b / span
div_mono span a b pos l = le-div (a / span) b span pos (let d = div-mul-le_self a span in omega arith)

pub place_le : (span a b : ℕ) → a / span ≡ b / span → a % span ≤ b % span → a ≤ b
place_le span a b q m = grind arith

pub le_place : (span a b : ℕ) → a / span ≡ b / span → a ≤ b → a % span ≤ b % span
le_place span a b q l = grind arith

pub spans : (span place a : ℕ) → 0 < span → a / span ≡ place → place < 512 → a < 512 * span
spans span place a pos q l = grind arith

pub place_within : (span page : ℕ) → 0 < span → page < 512 * span → page / span < 512
place_within span page pos l = grind arith

module _ {X : Type 0} (at : X → ℕ → Option Entry) (span : ℕ) where
  same_tests : (other page : ℕ) → other / span ≡ page / span → nat_eq (other % span) (page % span) ≡ nat_eq other page
  same_tests other page q = grind arith

  -- a place was changed at one page
  pub changed : (tables : List (Option X)) (page : ℕ) (o : Option X) (x : Option Entry) → page / span < length tables
      → ((other : ℕ) → slot_at at o other ≡ cond (nat_eq other (page % span)) x (slot_at at (inner_table tables (page / span)) other))
      → (other : ℕ) → level_at at span (set tables (page / span) o) other ≡ cond (nat_eq other page) x (level_at at span tables other)
  changed tables page o x l is other = elim (cases_eq (other / span) (page / span)) [
    | inl same ↦ ap (λ p. slot_at at (inner_table (set tables (page / span) o) p) (other % span)) same
        ∙ ap (λ s. slot_at at (option_and_then (λ table. table) s) (other % span)) (got_set tables (page / span) o l)
        ∙ is (other % span)
        ∙ ap (λ p. cond (nat_eq (other % span) (page % span)) x (slot_at at (inner_table tables p) (other % span))) (sym same)
        ∙ ap (λ b. cond b x (level_at at span tables other)) (same_tests other page same)
    | inr apart ↦ ap (λ s. slot_at at (option_and_then (λ table. table) s) (other % span)) (got_other tables (page / span) (other / span) o apart)
        ∙ sym (cond-false (nat_eq other page) x (level_at at span tables other) (ne_eqb other page (λ e. apart (ap (λ k. k / span) e))))
  ]

  -- ---- a page of the table in a place is one of the whole
  module _ (tables : List (Option X)) (place : ℕ) (slot : Option X) (there : inner_table tables place ≡ slot) where
    at_place : (page : ℕ) → page / span ≡ place → level_at at span tables page ≡ slot_at at slot (page % span)
    at_place page q = ap (λ p. slot_at at (inner_table tables p) (page % span)) q ∙ ap (λ o. slot_at at o (page % span)) there

    at_page : (page : ℕ) → page < span → level_at at span tables (place * span + page) ≡ slot_at at slot page
    at_page page l = at_place (place * span + page) (div-mul-add place span page l) ∙ ap (slot_at at slot) (mod-mul-add place span page l)

    pub first_in_none : (from : ℕ) → IsFirstAt span (slot_at at slot) from None → IsFirstInTable span (level_at at span tables) place from None
    first_in_none from none page q l = at_place page q ∙ none (page % span) l

    pub first_in_some : (from first : ℕ) (entry : Entry) → IsFirstAt span (slot_at at slot) from (Some (first, entry)) → IsFirstInTable span (level_at at span tables) place from (Some (place * span + first, entry))
    first_in_some from first entry some = grind (arith, mod-mul-add, div-mul-add, div-add-mod')

    pub has_page : 0 < span → place < 512 → HasMappedPage span (slot_at at slot) → HasMappedPage (512 * span) (level_at at span tables)
    has_page pos within has = (
      place * span + has.0,
      spans span place (place * span + has.0) pos (div-mul-add place span has.0 has.1) within,
      subst (λ (o : Option Entry). IsSome o) (sym (at_page has.0 has.1)) has.2,
    )

module _ {X : Type 0} (at : X → ℕ → Option Entry) (IsKept : X → Type 0) (span : ℕ) (pos : 0 < span) (words : List ℕ) (tables : List (Option X)) (kept : IsLevel at IsKept span words tables) where
  unused : (place : ℕ) → is_used words place ≡ false → inner_table tables place ≡ None
  unused place e = none_of (inner_table tables place) (sym (kept.used place) ∙ e)

  unused_at : (page : ℕ) → is_used words (page / span) ≡ false → level_at at span tables page ≡ None
  unused_at page e = ap (λ o. slot_at at o (page % span)) (unused (page / span) e)

  slot_of : (place : ℕ) (table : X) → inner_table tables place ≡ Some table → IsKept table × HasMappedPage span (at table)
  slot_of place table e = kept.slots place table e

  pub used_table : (place : ℕ) → is_used words place ≡ true → (table : X) × (inner_table tables place ≡ Some table)
  used_table place e = some_of (inner_table tables place) (sym (kept.used place) ∙ e)

  pub none_used : IsNextUsed words 0 None → (page : ℕ) → level_at at span tables page ≡ None
  none_used none page = unused_at page (none (page / span) (omega arith))

  pub some_used : (place : ℕ) → IsNextUsed words 0 (Some place) → HasMappedPage (512 * span) (level_at at span tables)
  some_used place next =
      let found = used_table place next.2 in
      has_page at span tables place (Some found.0) found.1 pos next.1 (slot_of place found.0 found.1).1

  pub level_has : (o : Option ℕ) → is_some o ≡ true → IsNextUsed words 0 o → HasMappedPage (512 * span) (level_at at span tables)
  level_has None e next = absurd (let f : false ≡ true = e in cc)
  level_has (Some place) e next = some_used place next

  module _ (page place : ℕ) (here : page / span ≡ place) where
    -- it is found in the page's own table
    pub first_here : (first : ℕ) (entry : Entry) → place < 512 → IsFirstInTable span (level_at at span tables) place (page % span) (Some (first, entry)) → IsFirstAt (512 * span) (level_at at span tables) page (Some (first, entry))
    first_here first entry within some = grind (arith, place_le, spans, div_mono, le_place)

    module _ (none : IsFirstInTable span (level_at at span tables) place (page % span) None) where
      not_here : (other : ℕ) → page ≤ other → other / span ≡ place → level_at at span tables other ≡ None
      not_here other l q = none other q (le_place span page other (here ∙ sym q) l)

      -- no table after it
      pub first_nowhere : IsNextUsed words (place + 1) None → IsFirstAt (512 * span) (level_at at span tables) page None
      first_nowhere next other l = grind (arith, cases_eq, div_mono)

      module _ (after : ℕ) (next : IsNextUsed words (place + 1) (Some after)) where
        -- it is the first page of the next table
        pub first_after : (first : ℕ) (entry : Entry) → IsFirstInTable span (level_at at span tables) after 0 (Some (first, entry)) → IsFirstAt (512 * span) (level_at at span tables) page (Some (first, entry))
        first_after first entry some = (
          (let n = next.0 in let f = some.0 in elim (cases_lt page first) [
            | inl l ↦ omega arith
            | inr g ↦ (let above : first / span ≤ page / span = div_mono span first page pos g in absurd (omega arith))
          ]),
          spans span after first pos some.0 next.1,
          some.2,
          λ other l b. between other l b,
        )
          where
            between : (other : ℕ) → page ≤ other → other < first → level_at at span tables other ≡ None
            between other l b = elim (cases_eq (other / span) place) [
              | inl q ↦ not_here other l q
              | inr apart ↦ elim (cases_eq (other / span) after) [
                | inl q ↦ some.3 other q (omega arith) b
                | inr last ↦ unused_at other (next.3 (other / span)
                    (let below : page / span ≤ other / span = div_mono span page other pos l in omega arith)
                    (let above : other / span ≤ first / span = div_mono span other first pos (omega arith) in let f = some.0 in omega arith))
              ]
            ]

        -- the next table has a page
        pub never_none : IsFirstInTable span (level_at at span tables) after 0 None → ⊥
        never_none none =
            let found = used_table after next.2 in
            let has = (slot_of after found.0 found.1).1 in
            not_none (at found.0 has.0) (sym (at_page at span tables after (Some found.0) found.1 has.0 has.1)
            ∙ none (after * span + has.0) (div-mul-add after span has.0 has.1) (omega arith)) has.2

  -- ---- a table is kept after a change
  pub kept_set : (after : List ℕ) (place : ℕ) (o : Option X) → place < 512 → IsSlot at IsKept span o
      → ((other : ℕ) → is_used after other ≡ cond (nat_eq other place) (is_some o) (is_used words other)) → IsLevel at IsKept span after (set tables place o)
  kept_set after place o l slot bits = record {
    places = length-set tables place o ∙ kept.places;
    used = λ other. elim (cases_eq other place) [
      | inl same ↦ bits other ∙ cond-true (nat_eq other place) (is_some o) (is_used words other) (eq-eqb other place same) ∙ sym (ap is_some (here other same))
      | inr apart ↦ bits other ∙ cond-false (nat_eq other place) (is_some o) (is_used words other) (ne_eqb other place apart) ∙ kept.used other ∙ sym (ap is_some (there other apart))
    ];
    slots = λ other. elim (cases_eq other place) [
      | inl same ↦ subst (λ (s : Option X). IsSlot at IsKept span s) (sym (here other same)) slot
      | inr apart ↦ subst (λ (s : Option X). IsSlot at IsKept span s) (sym (there other apart)) (kept.slots other)
    ];
  }
    where
      here : (other : ℕ) → other ≡ place → inner_table (set tables place o) other ≡ o
      here other same = ap (inner_table (set tables place o)) same ∙ ap (option_and_then (λ table. table)) (got_set tables place o (let p = kept.places in omega arith))

      there : (other : ℕ) → (other ≡ place → ⊥) → inner_table (set tables place o) other ≡ inner_table tables other
      there other apart = ap (option_and_then (λ table. table)) (got_other tables place other o apart)

-- ---- as the code reads and writes a place
pub slot_got : {X : Type 0} (tables : List (Option X)) (place : ℕ) (d : Option X) → place < length tables → inner_table tables place ≡ get_or tables place d
slot_got tables place d l = ap (option_and_then (λ table. table)) (slice_get-get_or tables place d l)

-- what holds where an error is returned
pub at_exit : {T E P : Type 0} (r : Result T E) → P → OnErr r P
at_exit (Ok x) p = tt
at_exit (Err e) p = p

pub below_512 : (span s page : ℕ) → s ≡ span → 0 < span → page < 512 * span → page / s < 512
below_512 span s page e pos l = subst (λ k. page / k < 512) (sym e) (place_within span page pos l)

-- the table in a place, as the code reads it
module _ {X : Type 0} (at : X → ℕ → Option Entry) (IsKept : X → Type 0) (span : ℕ) (words : List ℕ) (tables : List (Option X)) (kept : IsLevel at IsKept span words tables) (place : ℕ) (within : place < 512) (d : Option X) where
  got_is : inner_table tables place ≡ get_or tables place d
  got_is = slot_got tables place d (let p = kept.places in omega arith)

  pub kept_got : IsSlot at IsKept span (get_or tables place d)
  kept_got = subst (λ (o : Option X). IsSlot at IsKept span o) got_is (kept.slots place)

  pub first_got_none : (from : ℕ) → IsFirstAt span (slot_at at (get_or tables place d)) from None → IsFirstInTable span (level_at at span tables) place from None
  first_got_none from none = first_in_none at span tables place (get_or tables place d) got_is from none

  pub first_got_some : (s from first : ℕ) (entry : Entry) → s ≡ span → IsFirstAt span (slot_at at (get_or tables place d)) from (Some (first, entry)) → IsFirstInTable span (level_at at span tables) place from (Some (place * s + first, entry))
  first_got_some s from first entry e some = subst (λ k. IsFirstInTable span (level_at at span tables) place from (Some (place * k + first, entry))) (sym e) (first_in_some at span tables place (get_or tables place d) got_is from first entry some)

-- the table in the place of a page, as the code reads it: s and t are the span of the tables below
module _ {X : Type 0} (at : X → ℕ → Option Entry) (IsKept : X → Type 0) (span : ℕ) (pos : 0 < span) (words : List ℕ) (tables : List (Option X)) (kept : IsLevel at IsKept span words tables)
    (page s t : ℕ) (e : s ≡ span) (f : t ≡ span) (within : page < 512 * span) (d : Option X) where
  below : page / s < length tables
  below = (let l = below_512 span s page e pos within in let p = kept.places in omega arith)

  slot_is : inner_table tables (page / s) ≡ get_or tables (page / s) d
  slot_is = slot_got tables (page / s) d below

  pub kept_slot : IsSlot at IsKept span (get_or tables (page / s) d)
  kept_slot = subst (λ (o : Option X). IsSlot at IsKept span o) slot_is (kept.slots (page / s))

  pub level_got : slot_at at (get_or tables (page / s) d) (page % t) ≡ level_at at span tables page
  level_got = ap (λ o. slot_at at o (page % t)) (sym slot_is) ∙ ap (λ k. slot_at at (inner_table tables (page / k)) (page % t)) e ∙ ap (λ k. slot_at at (inner_table tables (page / span)) (page % k)) f

  -- ---- the slot is another
  module _ (o : Option X) where
    pub level_changed : (x : Option Entry) → ((other : ℕ) → slot_at at o other ≡ cond (nat_eq other (page % t)) x (slot_at at (get_or tables (page / s) d) other))
        → (other : ℕ) → level_at at span (set tables (page / s) o) other ≡ cond (nat_eq other page) x (level_at at span tables other)
    level_changed x is other = ap (λ k. level_at at span (set tables (page / k) o) other) e
        ∙ changed at span tables page o x (subst (λ k. page / k < length tables) e below)
        (λ q. is q ∙ ap (λ k. cond (nat_eq q (page % k)) x (slot_at at (get_or tables (page / s) d) q)) f ∙ ap (λ b. cond (nat_eq q (page % span)) x (slot_at at b q)) (sym slot_is ∙ ap (λ k. inner_table tables (page / k)) e)) other

    pub level_same : ((other : ℕ) → slot_at at o other ≡ slot_at at (get_or tables (page / s) d) other)
        → (other : ℕ) → level_at at span (set tables (page / s) o) other ≡ level_at at span tables other
    level_same is other = elim (cases_eq (other / span) (page / s)) [
      | inl here ↦ ap (λ p. slot_at at (inner_table (set tables (page / s) o) p) (other % span)) here
          ∙ ap (λ k. slot_at at (option_and_then (λ table. table) k) (other % span)) (got_set tables (page / s) o below)
          ∙ is (other % span) ∙ ap (λ k. slot_at at k (other % span)) (sym slot_is) ∙ ap (λ p. slot_at at (inner_table tables p) (other % span)) (sym here)
      | inr apart ↦ ap (λ k. slot_at at (option_and_then (λ table. table) k) (other % span)) (got_other tables (page / s) (other / span) o apart)
    ]

    module _ (slot : IsSlot at IsKept span o) where
      set_kept : (after : List ℕ) → ((other : ℕ) → is_used after other ≡ cond (nat_eq other (page / s)) (is_some o) (is_used words other)) → IsLevel at IsKept span after (set tables (page / s) o)
      set_kept after bits = kept_set at IsKept span pos words tables kept after (page / s) o (below_512 span s page e pos within) slot bits

      pub kept_added : (after : List ℕ) → is_some o ≡ true → ((other : ℕ) → is_used after other ≡ (nat_eq other (page / s) || is_used words other)) → IsLevel at IsKept span after (set tables (page / s) o)
      kept_added after some added = set_kept after (λ other. added other ∙ bits (nat_eq other (page / s)) (is_used words other) ∙ ap (λ b. cond (nat_eq other (page / s)) b (is_used words other)) (sym some))
        where
          bits : (b u : Bool) → (b || u) ≡ cond b true u
          bits true u = refl
          bits false u = refl

      pub kept_removed : (after : List ℕ) → is_some o ≡ false → ((other : ℕ) → is_used after other ≡ (not (nat_eq other (page / s)) && is_used words other)) → IsLevel at IsKept span after (set tables (page / s) o)
      kept_removed after none removed = set_kept after (λ other. removed other ∙ bits (nat_eq other (page / s)) (is_used words other) ∙ ap (λ b. cond (nat_eq other (page / s)) b (is_used words other)) (sym none))
        where
          bits : (b u : Bool) → (not b && u) ≡ cond b false u
          bits true u = refl
          bits false u = refl

      pub kept_same : is_some o ≡ is_some (get_or tables (page / s) d) → IsLevel at IsKept span words (set tables (page / s) o)
      kept_same same = set_kept words (λ other. elim (cases_eq other (page / s)) [
        | inl here ↦ ap (is_used words) here ∙ kept.used (page / s) ∙ ap is_some slot_is ∙ sym same
            ∙ sym (cond-true (nat_eq other (page / s)) (is_some o) (is_used words other) (eq-eqb other (page / s) here))
        | inr apart ↦ sym (cond-false (nat_eq other (page / s)) (is_some o) (is_used words other) (ne_eqb other (page / s) apart))
      ])

-- ---- the first page from one on, as the code looks for it
module _ {X : Type 0} (at : X → ℕ → Option Entry) (IsKept : X → Type 0) (span : ℕ) (pos : 0 < span) (words : List ℕ) (tables : List (Option X)) (kept : IsLevel at IsKept span words tables)
    (page s t : ℕ) (e : s ≡ span) (f : t ≡ span) (within : page < 512 * span) where
  own : page / span ≡ page / s
  own = ap (λ k. page / k) (sym e)

  in_own : (o : Option (ℕ × Entry)) → IsFirstInTable span (level_at at span tables) (page / s) (page % t) o → IsFirstInTable span (level_at at span tables) (page / s) (page % span) o
  in_own o first = subst (λ k. IsFirstInTable span (level_at at span tables) (page / s) (page % k) o) f first

  pub found_here : (o : Option (ℕ × Entry)) → is_some o ≡ true → IsFirstInTable span (level_at at span tables) (page / s) (page % t) o → IsFirstAt (512 * span) (level_at at span tables) page o
  found_here None g first = absurd (let h : false ≡ true = g in cc)
  found_here (Some first) g some = first_here at IsKept span pos words tables kept page (page / s) own first.0 first.1 (below_512 span s page e pos within) (in_own (Some first) some)

  pub nowhere : (o : Option (ℕ × Entry)) → is_some o ≡ false → IsFirstInTable span (level_at at span tables) (page / s) (page % t) o → IsNextUsed words (page / s + 1) None → IsFirstAt (512 * span) (level_at at span tables) page None
  nowhere None g none next = first_nowhere at IsKept span pos words tables kept page (page / s) own (in_own None none) next
  nowhere (Some first) g none next = absurd (let h : true ≡ false = g in cc)

  pub of_next : (o : Option (ℕ × Entry)) → is_some o ≡ false → IsFirstInTable span (level_at at span tables) (page / s) (page % t) o → (after : ℕ) → IsNextUsed words (page / s + 1) (Some after)
      → (r : Option (ℕ × Entry)) → IsFirstInTable span (level_at at span tables) after 0 r → IsFirstAt (512 * span) (level_at at span tables) page r
  of_next (Some first) g none after next r found = absurd (let h : true ≡ false = g in cc)
  of_next None g none after next None found = absurd (never_none at IsKept span pos words tables kept page (page / s) own (in_own None none) after next found)
  of_next None g none after next (Some first) found = first_after at IsKept span pos words tables kept page (page / s) own (in_own None none) after next first.0 first.1 found

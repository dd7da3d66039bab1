-- Tables that are copied place by place.
use Rattle.std.proofs.Common.{◌≡◌, ℕ, ◌+◌, ◌/◌, ◌%◌, ◌<◌, ◌≤◌, Bool, true, false, cond, nat_eq, nat_lt, ◌||◌, is_some, List, length, set, get_or, Option, Some, None, refl, sym, ◌∙◌, ap, subst, inl, inr, arith}
use Rattle.std.specs.Option.{option_map, option_and_then}
use Rattle.std.specs.List.{slice_get}
use Rattle.std.proofs.lemmas.Bool.{cases_eq, cases_lt, cond-true, cond-false, eq-eqb, ne_eqb}
use Rattle.std.proofs.lemmas.Bool.Decides.{nat_tests}
use Rattle.std.proofs.lemmas.Option.{slice_get-get_or}
use Rattle.sd_tables.specs.declared.entry.Entry.{Entry}
use Rattle.sd_tables.specs.declared.leaf_entry.LeafEntry.{LeafEntry}
use Rattle.std.specs.FinMap as finmap
use Rattle.sd_areas.specs.Pages.{is_within}
use Rattle.sd_tables.specs.Copies.{bare_entry}
use Rattle.sd_tables.specs.Tables.{Table}
use Rattle.sd_tables.specs.Radix.{is_used, entry_in, leaf_at, slot_at, inner_table, level_at, HasMappedPage, IsNextUsed, IsSlot, IsLevel, table_of}
use Rattle.sd_tables.proofs.PlaceLemmas.{got_set, got_other}
use Rattle.sd_tables.proofs.LevelLemmas.{kept_set, slot_got}
use Rattle.sd_tables.proofs.TableLemmas.{none_of}
use Rattle.sd_tables.proofs.TableOfLemmas.{get-table_of}

-- what a copy has: the old entries before a place, and nothing from there on
abbrev pub CopiedTo : (ℕ → Option Entry) → (ℕ → Option Entry) → ℕ → Type 0
CopiedTo old new from = (p : ℕ) → new p ≡ cond (nat_lt p from) (option_map bare_entry (old p)) None

module _ (old : ℕ → Option Entry) where
  pub copied-none : (new : ℕ → Option Entry) → ((p : ℕ) → new p ≡ None) → CopiedTo old new 0
  copied-none new none p = none p ∙ sym (cond-false (nat_lt p 0) (option_map bare_entry (old p)) None (grind (arith, nat_tests)))

  past : (from p : ℕ) → ((q : ℕ) → from ≤ q → old q ≡ None) → cond (nat_lt p from) (option_map bare_entry (old p)) None ≡ option_map bare_entry (old p)
  past from p none = grind arith

  -- there are no more
  pub copied-all : (new : ℕ → Option Entry) (from : ℕ) → CopiedTo old new from → ((q : ℕ) → from ≤ q → old q ≡ None) → (p : ℕ) → new p ≡ option_map bare_entry (old p)
  copied-all new from so none p = so p ∙ past from p none

  -- the next place is copied
  pub copied-next : (new more : ℕ → Option Entry) (from place : ℕ) → from ≤ place → CopiedTo old new from → ((q : ℕ) → from ≤ q → q < place → old q ≡ None)
      → more place ≡ option_map bare_entry (old place) → ((q : ℕ) → (q ≡ place → ⊥) → more q ≡ new q) → CopiedTo old more (place + 1)
  copied-next new more from place le so none here others p = elim (cases_eq p place) [
    | inl same ↦ ap more same ∙ here ∙ ap (λ q. option_map bare_entry (old q)) (sym same)
        ∙ sym (cond-true (nat_lt p (place + 1)) (option_map bare_entry (old p)) None (grind (arith, nat_tests)))
    | inr apart ↦ others p apart ∙ so p ∙ elim (cases_lt p from) [
      | inl l ↦ ap (λ b. cond b (option_map bare_entry (old p)) None) (let t : nat_lt p from ≡ nat_lt p (place + 1) = grind (arith, nat_tests) in t)
      | inr g ↦ cond-false (nat_lt p from) (option_map bare_entry (old p)) None (grind (arith, nat_tests)) ∙ elim (cases_lt p place) [
        | inl l ↦ sym (ap (λ o. cond (nat_lt p (place + 1)) (option_map bare_entry o) None) (none p g l) ∙ nothing (nat_lt p (place + 1)))
        | inr h ↦ sym (cond-false (nat_lt p (place + 1)) (option_map bare_entry (old p)) None (grind (arith, nat_tests)))
      ]
    ]
  ]
    where
      nothing : (b : Bool) → cond b (option_map bare_entry None) None ≡ None
      nothing true = refl
      nothing false = refl

-- ---- a leaf
module _ (words : List ℕ) (entries : List LeafEntry) where
  leaf_unused : (place : ℕ) → is_used words place ≡ false → leaf_at words entries place ≡ None
  leaf_unused place e = cond-false (is_used words place) (option_map entry_in (slice_get entries place)) None e

  leaf_used : (place : ℕ) (d : LeafEntry) → place < length entries → is_used words place ≡ true → leaf_at words entries place ≡ Some (entry_in (get_or entries place d))
  leaf_used place d l e = cond-true (is_used words place) (option_map entry_in (slice_get entries place)) None e ∙ ap (option_map entry_in) (slice_get-get_or entries place d l)

  pub leaf-next : (new more : ℕ → Option Entry) (from place : ℕ) (d : LeafEntry) (entry : Entry) → place < length entries → IsNextUsed words from (Some place) → CopiedTo (leaf_at words entries) new from
      → entry ≡ bare_entry (entry_in (get_or entries place d)) → ((q : ℕ) → more q ≡ cond (nat_eq q place) (Some entry) (new q)) → CopiedTo (leaf_at words entries) more (place + 1)
  leaf-next new more from place d entry l next so is put = copied-next (leaf_at words entries) new more from place next.0 so
      (λ q a b. leaf_unused q (next.3 q a b))
      (put place ∙ cond-true (nat_eq place place) (Some entry) (new place) (eq-eqb place place refl) ∙ ap Some is ∙ ap (option_map bare_entry) (sym (leaf_used place d l next.2)))
      (λ q apart. put q ∙ cond-false (nat_eq q place) (Some entry) (new q) (ne_eqb q place apart))

  pub leaf-all : (new : ℕ → Option Entry) (from : ℕ) → IsNextUsed words from None → CopiedTo (leaf_at words entries) new from → (q : ℕ) → new q ≡ option_map bare_entry (leaf_at words entries q)
  leaf-all new from none so = copied-all (leaf_at words entries) new from so (λ q a. leaf_unused q (none q a))

-- ---- a table above the lowest level
-- the tables of the places before one are copied, each at each of its pages
abbrev pub AreCopied : {X : Type 0} → (X → ℕ → Option Entry) → List (Option X) → List (Option X) → ℕ → Type 0
AreCopied at old new from = (page : ℕ) → CopiedTo (λ p. slot_at at (inner_table old p) page) (λ p. slot_at at (inner_table new p) page) from

module _ {X : Type 0} (at : X → ℕ → Option Entry) (IsKept : X → Type 0) (span : ℕ) (words : List ℕ) (tables : List (Option X)) (kept : IsLevel at IsKept span words tables) where
  slot_unused : (place page : ℕ) → is_used words place ≡ false → slot_at at (inner_table tables place) page ≡ None
  slot_unused place page e = ap (λ o. slot_at at o page) (none_of (inner_table tables place) (sym (kept.used place) ∙ e))

  pub level-none : (new : List (Option X)) → ((place : ℕ) → inner_table new place ≡ None) → AreCopied at tables new 0
  level-none new none page = copied-none (λ p. slot_at at (inner_table tables p) page) (λ p. slot_at at (inner_table new p) page) (λ p. ap (λ o. slot_at at o page) (none p))

  pub level-all : (new : List (Option X)) (from : ℕ) → IsNextUsed words from None → AreCopied at tables new from → (page : ℕ) → level_at at span new page ≡ option_map bare_entry (level_at at span tables page)
  level-all new from none so page = copied-all (λ p. slot_at at (inner_table tables p) (page % span)) (λ p. slot_at at (inner_table new p) (page % span)) from (so (page % span)) (λ q a. slot_unused q (page % span) (none q a)) (page / span)

  module _ (new : List (Option X)) (from place : ℕ) (next : IsNextUsed words from (Some place)) (d : Option X) where
    old_slot : inner_table tables place ≡ get_or tables place d
    old_slot = slot_got tables place d (let p = kept.places in let n = next.1 in omega arith)

    pub kept_place : IsSlot at IsKept span (get_or tables place d)
    kept_place = subst (λ (o : Option X). IsSlot at IsKept span o) old_slot (kept.slots place)

    module _ (o : Option X) where
      pub level-next : place < length new → AreCopied at tables new from → ((page : ℕ) → slot_at at o page ≡ option_map bare_entry (slot_at at (get_or tables place d) page)) → AreCopied at tables (set new place o) (place + 1)
      level-next l so is page = copied-next (λ p. slot_at at (inner_table tables p) page) (λ p. slot_at at (inner_table new p) page) (λ p. slot_at at (inner_table (set new place o) p) page) from place next.0 (so page)
          (λ q a b. slot_unused q page (next.3 q a b))
          (ap (λ s. slot_at at (option_and_then (λ table. table) s) page) (got_set new place o l) ∙ is page ∙ ap (λ s. option_map bare_entry (slot_at at s page)) (sym old_slot))
          (λ q apart. ap (λ s. slot_at at (option_and_then (λ table. table) s) page) (got_other new place q o apart))

      pub level-kept : 0 < span → (bits after : List ℕ) → IsLevel at IsKept span bits new → IsSlot at IsKept span o → is_some o ≡ is_some (get_or tables place d)
          → ((other : ℕ) → is_used after other ≡ (nat_eq other place || is_used bits other)) → IsLevel at IsKept span after (set new place o)
      level-kept pos bits after was slot same added =
          let some : is_some o ≡ true = same ∙ ap is_some (sym old_slot) ∙ sym (kept.used place) ∙ next.2 in
          kept_set at IsKept span pos bits new was after place o next.1 slot
          (λ other. added other ∙ either (nat_eq other place) (is_used bits other) ∙ ap (λ b. cond (nat_eq other place) b (is_used bits other)) (sym some))
        where
          either : (b u : Bool) → (b || u) ≡ cond b true u
          either true u = refl
          either false u = refl

-- a copy has a page where the old one has one
pub bare_seen : (o : Option Entry) → is_some (option_map bare_entry o) ≡ is_some o
bare_seen o = grind arith

pub has_copy : (span : ℕ) (old new : ℕ → Option Entry) → ((page : ℕ) → new page ≡ option_map bare_entry (old page)) → HasMappedPage span old → HasMappedPage span new
has_copy span old new is has = (has.0, has.1, ap is_some (is has.0) ∙ bare_seen (old has.0) ∙ has.2)

-- ---- a page table
pub table_bare : (limit : ℕ) (f g : ℕ → Option Entry) → ((q : ℕ) → g q ≡ option_map bare_entry (f q)) → (t : Table Entry) → table_of limit f ≡ t → (q : ℕ) → finmap.get (table_of limit g) q ≡ option_map bare_entry (finmap.get t q)
table_bare limit f g is t v q = get-table_of g limit q ∙ ap (λ o. cond (is_within 0 limit q) o None) (is q) ∙ inner (is_within 0 limit q) (f q)
    ∙ ap (option_map bare_entry) (sym (get-table_of f limit q)) ∙ ap (λ m. option_map bare_entry (finmap.get m q)) v
  where
    inner : (w : Bool) (o : Option Entry) → cond w (option_map bare_entry o) None ≡ option_map bare_entry (cond w o None)
    inner true o = refl
    inner false o = refl

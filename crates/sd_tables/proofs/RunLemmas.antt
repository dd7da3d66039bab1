-- Runs of pages that change where they are: what each table has afterwards.
use Rattle.std.proofs.Common.{◌≡◌, ◌⊎◌, ℕ, zero, suc, ◌+◌, ◌-◌, ◌*◌, ◌/◌, ◌%◌, ◌<◌, ◌≤◌, Bool, true, false, cond, nat_eq, is_some, IsSome, List, length, set, get_or, Option, Some, None, refl, sym, ◌∙◌, ap, subst, inl, inr, arith}
use Rattle.std.specs.List.{slice_get}
use Rattle.std.specs.Option.{option_map, option_and_then}
use Rattle.std.specs.Prelude.{Result, IfOk, OnErr}
use Rattle.std.proofs.lemmas.Bool.{cases_eq, cases_lt, cond-true, cond-false, eq-eqb, ne_eqb}
use Rattle.std.proofs.lemmas.Nat.{div-mul-add, mod-mul-add, div-add-mod'}
use Rattle.std.proofs.lemmas.Option.{slice_get-get_or}
use Rattle.std.proofs.Math.Nat.{mul-le-mul_right}
use Rattle.std.specs.Cmp.{nat_cmp_total}
use Rattle.std.specs.FinMap as finmap
use Rattle.std.specs.FinMap.{len-insert}
use Rattle.sd_areas.specs.Pages.{is_within}
use Rattle.sd_tables.specs.declared.entry.Entry.{Entry}
use Rattle.sd_tables.specs.declared.leaf_entry.LeafEntry.{LeafEntry}
use Rattle.sd_tables.specs.declared.run_change.RunChange.{RunChange}
use Rattle.sd_tables.specs.Tables.{Table}
use Rattle.sd_tables.specs.Radix.{is_used, entry_in, leaf_at, slot_at, inner_table, level_at, HasMappedPage, IsLevel, table_of}
use Rattle.sd_tables.specs.Runs.{takes, changed_entry, change_of, AreMapped, ChangesRun, FillsRun}
use Rattle.sd_tables.proofs.PlaceLemmas.{got_set, got_other}
use Rattle.sd_tables.proofs.LevelLemmas.{slot_got, place_within}
use Rattle.sd_tables.proofs.TableLemmas.{same_table, get_put, some_of}
use Rattle.sd_tables.proofs.TableOfLemmas.{get-table_of, get_within}

-- a page more that is mapped
pub mapped-more : (at : ℕ → Option Entry) (from k : ℕ) → AreMapped at from k → IsSome (at k) → AreMapped at from (k + 1)
mapped-more at from k mapped here page l m = grind arith

module _ (change : RunChange) where
  pub changes-none : (at : ℕ → Option Entry) (from : ℕ) → ChangesRun change at at from from
  changes-none at from = record { taken = λ page l b. absurd (omega arith); others = λ page out. refl }

  -- one run after the other
  pub changes-both : (a b c : ℕ → Option Entry) (from k to : ℕ) → from ≤ k → k ≤ to → ChangesRun change a b from k → ChangesRun change b c k to → ChangesRun change a c from to
  changes-both a b c from k to le more one two = record {
    taken = λ page l m. elim (cases_lt page k) [
      | inl below ↦ (let t = one.taken page l below in (t.0, t.1, t.2, two.others page (inl below) ∙ t.3))
      | inr above ↦ (let t = two.taken page above m in (t.0, sym (one.others page (inr above)) ∙ t.1, t.2, t.3))
    ];
    others = λ page out. elim out [
      | inl below ↦ two.others page (inl (omega arith)) ∙ one.others page (inl below)
      | inr above ↦ two.others page (inr above) ∙ one.others page (inr (omega arith))
    ];
  }

  -- of tables that have the same
  pub changes-seen : (a b c d : ℕ → Option Entry) (from to : ℕ) → ((q : ℕ) → c q ≡ a q) → ((q : ℕ) → d q ≡ b q) → ChangesRun change a b from to → ChangesRun change c d from to
  changes-seen a b c d from to e f run = record {
    taken = λ page l m. (let t = run.taken page l m in (t.0, e page ∙ t.1, t.2, f page ∙ t.3));
    others = λ page out. f page ∙ run.others page out ∙ sym (e page);
  }

  -- the same pages are mapped
  pub changes-mapped : (a b : ℕ → Option Entry) (from to page : ℕ) → ChangesRun change a b from to → is_some (b page) ≡ is_some (a page)
  changes-mapped a b from to page run = elim (cases_lt page from) [
    | inl below ↦ ap is_some (run.others page (inl below))
    | inr reached ↦ elim (cases_lt page to) [
      | inl within ↦ (let t = run.taken page reached within in ap is_some t.3 ∙ sym (ap is_some t.1))
      | inr past ↦ ap is_some (run.others page (inr past))
    ]
  ]

  pub changes-has : (span : ℕ) (a b : ℕ → Option Entry) (from to : ℕ) → ChangesRun change a b from to → HasMappedPage span a → HasMappedPage span b
  changes-has span a b from to run has = (has.0, has.1, changes-mapped a b from to has.0 run ∙ has.2)

  chosen : (t : Bool) (x y : Entry) → cond t (Some x) None ≡ Some y → (t ≡ true) × (y ≡ x)
  chosen t x y e = grind arith

  -- ---- a leaf
  module _ (words : List ℕ) (entries : List LeafEntry) (place : ℕ) (within : place < length entries) (used : is_used words place ≡ true) (d : LeafEntry) where
    here : (es : List LeafEntry) (e : LeafEntry) → slice_get es place ≡ Some e → leaf_at words es place ≡ Some (entry_in e)
    here es e is = cond-true (is_used words place) (option_map entry_in (slice_get es place)) None used ∙ ap (option_map entry_in) is

    pub leaf_changed : (e : LeafEntry) (entry : Entry) → Some entry ≡ change_of change (entry_in (get_or entries place d)) → entry_in e ≡ entry
        → ChangesRun change (leaf_at words entries) (leaf_at words (set entries place e)) place (place + 1)
    leaf_changed e entry is same =
        let found = chosen (takes change (entry_in (get_or entries place d))) (changed_entry change (entry_in (get_or entries place d))) entry (sym is) in
        record {
          taken = λ page l m.
              let at_place : page ≡ place = omega arith in (
                entry_in (get_or entries place d),
                ap (leaf_at words entries) at_place ∙ here entries (get_or entries place d) (slice_get-get_or entries place d within),
                found.0,
                ap (leaf_at words (set entries place e)) at_place ∙ here (set entries place e) e (got_set entries place e within) ∙ ap Some (same ∙ found.1),
              );
          others = λ page out. ap (λ o. cond (is_used words page) (option_map entry_in o) None) (got_other entries place page e (λ at_place. elim out [
            | inl below ↦ omega arith
            | inr above ↦ omega arith
          ]));
        }

  -- ---- a table above the lowest level
  module _ {X : Type 0} (at : X → ℕ → Option Entry) (span : ℕ) (tables : List (Option X)) (place : ℕ) (o : Option X) (within : place < length tables) where
    at_place : (ts : List (Option X)) (slot : Option X) (page : ℕ) → inner_table ts place ≡ slot → page / span ≡ place → level_at at span ts page ≡ slot_at at slot (page % span)
    at_place ts slot page there q = ap (λ p. slot_at at (inner_table ts p) (page % span)) q ∙ ap (λ s. slot_at at s (page % span)) there

    put : inner_table (set tables place o) place ≡ o
    put = ap (option_and_then (λ table. table)) (got_set tables place o within)

    place_of : (page to : ℕ) → place * span ≤ page → page < place * span + to → to ≤ span → (page / span ≡ place) × (page % span ≡ page - place * span)
    place_of page to l m le = grind arith

    pub run_below : (from to : ℕ) → to ≤ span → ChangesRun change (slot_at at (inner_table tables place)) (slot_at at o) from to
        → ChangesRun change (level_at at span tables) (level_at at span (set tables place o)) (place * span + from) (place * span + to)
    run_below from to le run = record {
      taken = λ page l m.
          let p = place_of page to (omega arith) m le in
          let q = p.1 in
          let t = run.taken (page % span) (omega arith) (omega arith) in
          (t.0, at_place tables (inner_table tables place) page refl p.0 ∙ t.1, t.2, at_place (set tables place o) o page put p.0 ∙ t.3);
      others = λ page out. elim (cases_eq (page / span) place) [
        | inl q ↦
            let is : page / span * span + page % span ≡ page = div-add-mod' page span in
            let product : page / span * span ≡ place * span = ap (λ k. k * span) q in
            at_place (set tables place o) o page put q
            ∙ run.others (page % span) (elim out [
              | inl below ↦ inl (omega arith)
              | inr above ↦ inr (omega arith)
            ])
            ∙ sym (at_place tables (inner_table tables place) page refl q)
        | inr apart ↦ ap (λ k. slot_at at (option_and_then (λ table. table) k) (page % span)) (got_other tables place (page / span) o apart)
      ];
    }

-- the mapped pages of the table in a place
in_place : {X : Type 0} (at : X → ℕ → Option Entry) (span : ℕ) (tables : List (Option X)) (place from to : ℕ) → to ≤ span → AreMapped (slot_at at (inner_table tables place)) from to
    → AreMapped (level_at at span tables) (place * span + from) (place * span + to)
in_place at span tables place from to le mapped page l m =
    let r : page - place * span < span = omega arith in
    let is : place * span + (page - place * span) ≡ page = omega arith in
    let q : page / span ≡ place = sym (ap (λ k. k / span) is) ∙ div-mul-add place span (page - place * span) r in
    let rest : page % span ≡ page - place * span = sym (ap (λ k. k % span) is) ∙ mod-mul-add place span (page - place * span) r in
    ap (λ p. is_some (slot_at at (inner_table tables p) (page % span))) q ∙ mapped (page % span) (omega arith) (omega arith)

-- as the code reads and writes a place: s, t and u are the span of the tables below
module _ {X : Type 0} (at : X → ℕ → Option Entry) (IsKept : X → Type 0) (span : ℕ) (pos : 0 < span) (words : List ℕ) (tables : List (Option X)) (kept : IsLevel at IsKept span words tables)
    (page s t u : ℕ) (e : s ≡ span) (f : t ≡ span) (g : u ≡ span) (within : page < 512 * span) where
  begins : page / s * span + page % t ≡ page
  begins = ap (λ k. page / k * span + page % t) e ∙ ap (λ k. page / span * span + page % k) f ∙ div-add-mod' page span

  below : page / s < 512
  below = subst (λ k. page / k < 512) (sym e) (place_within span page pos within)

  in_tables : page / s < length tables
  in_tables = (let l = below in let p = kept.places in omega arith)

  pub first_le : page / s * u + page % t ≡ page
  first_le = ap (λ k. page / s * k + page % t) g ∙ begins

  pub run_span : (reached : ℕ) → reached ≤ span → page / s * u + reached ≤ 512 * span
  run_span reached l =
      let p : page / s * u ≡ page / s * span = ap (λ k. page / s * k) g in
      let m : (page / s + 1) * span ≤ 512 * span = mul-le-mul_right span (let b = below in omega arith) in
      let n : (page / s + 1) * span ≡ page / s * span + span = omega arith in
      omega arith

  module _ (d : Option X) where
    slot_is : inner_table tables (page / s) ≡ get_or tables (page / s) d
    slot_is = slot_got tables (page / s) d in_tables

    pub level_run : (change : RunChange) (o : Option X) (reached : ℕ) → reached ≤ span → ChangesRun change (slot_at at (get_or tables (page / s) d)) (slot_at at o) (page % t) reached
        → ChangesRun change (level_at at span tables) (level_at at span (set tables (page / s) o)) page (page / s * u + reached)
    level_run change o reached l run =
        let own = subst (λ (slot : Option X). ChangesRun change (slot_at at slot) (slot_at at o) (page % t) reached) (sym slot_is) run in
        let all = run_below change at span tables (page / s) o in_tables (page % t) reached l own in
        let first = subst (λ k. ChangesRun change (level_at at span tables) (level_at at span (set tables (page / s) o)) k (page / s * span + reached)) begins all in
        subst (λ k. ChangesRun change (level_at at span tables) (level_at at span (set tables (page / s) o)) page (page / s * k + reached)) (sym g) first

    pub level_mapped : (reached : ℕ) → reached ≤ span → AreMapped (slot_at at (get_or tables (page / s) d)) (page % t) reached → AreMapped (level_at at span tables) page (page / s * u + reached)
    level_mapped reached l mapped =
        let own = subst (λ (slot : Option X). AreMapped (slot_at at slot) (page % t) reached) (sym slot_is) mapped in
        let all = mapped_of (page / s) own in
        let first = subst (λ k. AreMapped (level_at at span tables) k (page / s * span + reached)) begins all in
        subst (λ k. AreMapped (level_at at span tables) page (page / s * k + reached)) (sym g) first
      where
        mapped_of : (place : ℕ) → AreMapped (slot_at at (inner_table tables place)) (page % t) reached → AreMapped (level_at at span tables) (place * span + page % t) (place * span + reached)
        mapped_of place own = in_place at span tables place (page % t) reached l own

-- ---- a page table
module _ (limit : ℕ) (f : ℕ → Option Entry) where
  pub table_mapped : (from to : ℕ) → to ≤ limit → AreMapped f from to → AreMapped (finmap.get (table_of limit f)) from to
  table_mapped from to le mapped page l m = ap is_some (get_within f limit page (omega arith)) ∙ mapped page l m

  pub table_run : (change : RunChange) (g : ℕ → Option Entry) (from to : ℕ) → to ≤ limit → ChangesRun change f g from to
      → ChangesRun change (finmap.get (table_of limit f)) (finmap.get (table_of limit g)) from to
  table_run change g from to le run = record {
    taken = λ page l m. (let t = run.taken page l m in (t.0, get_within f limit page (omega arith) ∙ t.1, t.2, get_within g limit page (omega arith) ∙ t.3));
    others = λ page out. get-table_of g limit page ∙ ap (λ o. cond (is_within 0 limit page) o None) (run.others page out) ∙ sym (get-table_of f limit page);
  }

-- of a table that is seen as another, from a page of the same number
pub run_from : (change : RunChange) (a b c : ℕ → Option Entry) (from first to : ℕ) → ((q : ℕ) → c q ≡ a q) → from ≡ first → ChangesRun change a b from to → ChangesRun change c b first to
run_from change a b c from first to e same run = subst (λ k. ChangesRun change c b k to) same (changes-seen change a b c b from to e (λ q. refl) run)

-- ---- holes that are filled
module _ (entry : Entry) where
  pub fills-none : (at : ℕ → Option Entry) (from : ℕ) → FillsRun entry at at from from
  fills-none at from = record { holes = λ page l b. absurd (omega arith); filled = λ page l b. absurd (omega arith); others = λ page out. refl }

  pub fills-more : (a b c : ℕ → Option Entry) (from k : ℕ) → from ≤ k → FillsRun entry a b from k → b k ≡ None → ((q : ℕ) → c q ≡ cond (nat_eq q k) (Some entry) (b q)) → FillsRun entry a c from (k + 1)
  fills-more a b c from k le run none put = grind arith

  pub fills-seen : (a b c d : ℕ → Option Entry) (from to : ℕ) → ((q : ℕ) → c q ≡ a q) → ((q : ℕ) → d q ≡ b q) → FillsRun entry a b from to → FillsRun entry c d from to
  fills-seen a b c d from to e f run = grind arith

  -- those that were mapped are mapped
  pub fills-has : (span : ℕ) (a b : ℕ → Option Entry) (from to : ℕ) → FillsRun entry a b from to → HasMappedPage span a → HasMappedPage span b
  fills-has span a b from to run has = grind arith

  pub fills-one : (a b : ℕ → Option Entry) (from : ℕ) → ((q : ℕ) → a q ≡ None) → ((q : ℕ) → b q ≡ cond (nat_eq q from) (Some entry) None) → FillsRun entry a b from (from + 1)
  fills-one a b from none put = fills-more a a b from from (omega arith) (fills-none a from) (none from) (λ q. put q ∙ ap (cond (nat_eq q from) (Some entry)) (sym (none q)))

  -- the run is that of the table in a place
  pub fill_below : {X : Type 0} (at : X → ℕ → Option Entry) (span : ℕ) (tables : List (Option X)) (place : ℕ) (o : Option X) → place < length tables → (from to : ℕ) → to ≤ span
      → FillsRun entry (slot_at at (inner_table tables place)) (slot_at at o) from to → FillsRun entry (level_at at span tables) (level_at at span (set tables place o)) (place * span + from) (place * span + to)
  fill_below {X = X} at span tables place o within from to le run = record {
    holes = λ page l m. (let p = in_run page l m in seen tables (inner_table tables place) page refl p.0 ∙ (let q = p.1 in run.holes (page % span) (omega arith) (omega arith)));
    filled = λ page l m. (let p = in_run page l m in seen (set tables place o) o page put p.0 ∙ (let q = p.1 in run.filled (page % span) (omega arith) (omega arith)));
    others = λ page out. elim (cases_eq (page / span) place) [
      | inl q ↦
          let is : page / span * span + page % span ≡ page = div-add-mod' page span in
          let product : page / span * span ≡ place * span = ap (λ k. k * span) q in
          seen (set tables place o) o page put q
          ∙ run.others (page % span) (elim out [
            | inl below ↦ inl (omega arith)
            | inr above ↦ inr (omega arith)
          ])
          ∙ sym (seen tables (inner_table tables place) page refl q)
      | inr apart ↦ ap (λ k. slot_at at (option_and_then (λ table. table) k) (page % span)) (got_other tables place (page / span) o apart)
    ];
  }
    where
      seen : (ts : List (Option X)) (slot : Option X) (page : ℕ) → inner_table ts place ≡ slot → page / span ≡ place → level_at at span ts page ≡ slot_at at slot (page % span)
      seen ts slot page there q = ap (λ p. slot_at at (inner_table ts p) (page % span)) q ∙ ap (λ s. slot_at at s (page % span)) there

      put : inner_table (set tables place o) place ≡ o
      put = ap (option_and_then (λ table. table)) (got_set tables place o within)

      in_run : (page : ℕ) → place * span + from ≤ page → page < place * span + to → (page / span ≡ place) × (page % span ≡ page - place * span)
      in_run page l m =
          let r : page - place * span < span = omega arith in
          let is : place * span + (page - place * span) ≡ page = omega arith in
          (sym (ap (λ k. k / span) is) ∙ div-mul-add place span (page - place * span) r, sym (ap (λ k. k % span) is) ∙ mod-mul-add place span (page - place * span) r)

-- as the code writes a place: s, t and u are the span of the tables below
module _ {X : Type 0} (at : X → ℕ → Option Entry) (IsKept : X → Type 0) (span : ℕ) (pos : 0 < span) (words : List ℕ) (tables : List (Option X)) (kept : IsLevel at IsKept span words tables)
    (page s t u : ℕ) (e : s ≡ span) (f : t ≡ span) (g : u ≡ span) (within : page < 512 * span) (d : Option X) where
  own_slot : inner_table tables (page / s) ≡ get_or tables (page / s) d
  own_slot = slot_got tables (page / s) d (in_tables at IsKept span pos words tables kept page s t u e f g within)

  pub level_fill : (entry : Entry) (o : Option X) (reached : ℕ) → reached ≤ span → FillsRun entry (slot_at at (get_or tables (page / s) d)) (slot_at at o) (page % t) reached
      → FillsRun entry (level_at at span tables) (level_at at span (set tables (page / s) o)) page (page / s * u + reached)
  level_fill entry o reached l run =
      let own = subst (λ (slot : Option X). FillsRun entry (slot_at at slot) (slot_at at o) (page % t) reached) (sym own_slot) run in
      let all = fill_below entry at span tables (page / s) o (in_tables at IsKept span pos words tables kept page s t u e f g within) (page % t) reached l own in
      let first = subst (λ k. FillsRun entry (level_at at span tables) (level_at at span (set tables (page / s) o)) k (page / s * span + reached)) (begins at IsKept span pos words tables kept page s t u e f g within) all in
      subst (λ k. FillsRun entry (level_at at span tables) (level_at at span (set tables (page / s) o)) page (page / s * k + reached)) (sym g) first

-- ---- a page table
pub table_fill : (entry : Entry) (limit : ℕ) (f g : ℕ → Option Entry) (from to : ℕ) → to ≤ limit → FillsRun entry f g from to → FillsRun entry (finmap.get (table_of limit f)) (finmap.get (table_of limit g)) from to
table_fill entry limit f g from to le run = grind (arith, get_within, get-table_of)

pub fill_from : (entry : Entry) (a b c : ℕ → Option Entry) (from first to : ℕ) → ((q : ℕ) → c q ≡ a q) → from ≡ first → FillsRun entry a b from to → FillsRun entry c b first to
fill_from entry a b c from first to e same run = subst (λ k. FillsRun entry c b k to) same (fills-seen entry a b c b from to e (λ q. refl) run)

pub fill_after : {E : Type 0} (entry : Entry) (span : ℕ) (a b : ℕ → Option Entry) (from : ℕ) (r : Result ℕ E) → HasMappedPage span a → IfOk r (λ to. FillsRun entry a b from to) → OnErr r ((q : ℕ) → b q ≡ a q) → HasMappedPage span b
fill_after entry span a b from r has run err = grind arith

pub if_ok_then : {A E : Type 0} {P Q : A → Type 0} (r : Result A E) → ((x : A) → P x → Q x) → IfOk r P → IfOk r Q
if_ok_then r f p = grind arith

-- ---- how many pages a table has
-- after a run of pages that were all there, or none of them, and are there now
len_run : (b : Bool) (count first : ℕ) (old new : Table Entry) → ((q : ℕ) → first ≤ q → q < first + count → is_some (finmap.get old q) ≡ b)
    → ((q : ℕ) → first ≤ q → q < first + count → IsSome (finmap.get new q)) → ((q : ℕ) → (q < first) ⊎ (first + count ≤ q) → finmap.get new q ≡ finmap.get old q)
    → finmap.len new ≡ finmap.len old + cond b 0 count
len_run b zero first old new was now others = ap finmap.len (same_table new old (λ q. others q (elim (cases_lt q first) [
  | inl l ↦ inl l
  | inr g ↦ inr (omega arith)
]))) ∙ nothing b (finmap.len old)
  where
    nothing : (b : Bool) (n : ℕ) → n ≡ n + cond b 0 0
    nothing true n = omega arith
    nothing false n = omega arith
len_run b (suc count) first old new was now others =
    let here = some_of (finmap.get new first) (now first (omega arith) (omega arith)) in
    let one = finmap.insert old first here.0 in
    let apart : (q : ℕ) → (q ≡ first → ⊥) → finmap.get one q ≡ finmap.get old q = λ q n. get_put old first here.0 q ∙ cond-false (nat_eq q first) (Some here.0) (finmap.get old q) (ne_eqb q first n) in
    let same : finmap.get one first ≡ Some here.0 = get_put old first here.0 first ∙ cond-true (nat_eq first first) (Some here.0) (finmap.get old first) (eq-eqb first first refl) in
    let rest = len_run b count (suc first) one new
    (λ q l m. ap is_some (apart q (λ e. omega arith)) ∙ was q (omega arith) (omega arith))
    (λ q l m. now q (omega arith) (omega arith))
    (λ q out. elim (cases_eq q first) [
      | inl e ↦ ap (finmap.get new) e ∙ here.1 ∙ sym same ∙ ap (finmap.get one) (sym e)
      | inr n ↦ others q (elim out [ inl l ↦ inl (omega arith) | inr g ↦ inr (omega arith) ]) ∙ sym (apart q n)
    ]) in
    let grown : finmap.len one ≡ cond b (finmap.len old) (finmap.len old + 1) = len-insert nat_cmp_total old first here.0 ∙ ap (λ c. cond c (finmap.len old) (finmap.len old + 1)) (was first (omega arith) (omega arith)) in
    counted b (finmap.len old) (finmap.len one) (finmap.len new) count grown rest
  where
    counted : (b : Bool) (n m k count : ℕ) → m ≡ cond b n (n + 1) → k ≡ m + cond b 0 count → k ≡ n + cond b 0 (suc count)
    counted true n m k count e f = omega arith
    counted false n m k count e f = omega arith

module _ (old new : Table Entry) (first to : ℕ) (le : first ≤ to) where
  -- as many as before, where the pages of the run were changed
  pub len_changed : (change : RunChange) → ChangesRun change (finmap.get old) (finmap.get new) first to → finmap.len new ≡ finmap.len old
  len_changed change run =
      let ends : first + (to - first) ≡ to = omega arith in
      let is = len_run true (to - first) first old new (λ q l m. (let t = run.taken q l (omega arith) in ap is_some t.1)) (λ q l m. (let t = run.taken q l (omega arith) in ap is_some t.3))
      (λ q out. run.others q (elim out [ inl l ↦ inl l | inr g ↦ inr (omega arith) ])) in
      let none : cond true 0 (to - first) ≡ 0 = refl in
      omega arith

  -- and as many more as holes were filled
  pub len_filled : (entry : Entry) → FillsRun entry (finmap.get old) (finmap.get new) first to → finmap.len new ≡ finmap.len old + (to - first)
  len_filled entry run =
      let ends : first + (to - first) ≡ to = omega arith in
      len_run false (to - first) first old new (λ q l m. ap is_some (run.holes q l (omega arith))) (λ q l m. ap is_some (run.filled q l (omega arith)))
      (λ q out. run.others q (elim out [ inl l ↦ inl l | inr g ↦ inr (omega arith) ]))

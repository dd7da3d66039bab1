-- The table of a dump grows space by space.
use Rattle.std.proofs.Common.{◌≡◌, ◌⊎◌, ◌<◌, ◌≤◌, ◌+◌, ℕ, suc, Bool, true, false, nat_eq, ◌||◌, List, [], ◌∷◌, ◌++◌, Option, Some, None, unwrap_or, is_some, refl, sym, ◌∙◌, ap, arith, inl, inr}
use Rattle.std.specs.List.{AllByRecursion, list_any}
use Rattle.std.specs.Option.{option_map}
use Rattle.std.specs.Ordering.{nat_cmp}
use Rattle.std.specs.FinMap as finmap
use Rattle.std.specs.FinMap.{len-empty}
use Rattle.std.proofs.lemmas.Bool.{cases_lt, false_from_ne_true}
use Rattle.std.proofs.lemmas.Bool.Decides.{nat_tests}
use Rattle.std.proofs.lemmas.List.Folds.{list_any-append}
use Rattle.std.proofs.lemmas.List.Sums.{sum_by-append}
use Rattle.sd_areas.specs.Areas.{PageMap, AreAreasOf}
use Rattle.sd_areas.specs.Laws as areas
use Rattle.sd_areas.specs.PlainMemory as plain
use Rattle.sd_areas.specs.PlainMemory.{PlainMemory}
use Rattle.sd_image.specs.Table.{Listed, mapped_count}
use Rattle.sd_image.specs.Shows.{page_in}
use Rattle.sd_pagetable.specs.Nested.{Table, inside, is_alive}
use Rattle.sd_pagetable.specs.Page.{PageState, plain_page}
use Rattle.sd_pagetable.specs.Contents.{Contents, page_at, plain_of, IsSound}
use Rattle.sd_pagetable.specs.Kept.{prots_of}
use Rattle.sd_pagetable.specs.Law.{PlainLaw, pages_below}
use Rattle.sd_rounds.specs.SpaceTables.{AreSpacesBelow, IsSpaceOf, Rise}
use Rattle.sd_rounds.proofs.MadeLemmas.{page_in_is}
use Rattle.sd_writing.proofs.TableLemmas.{all_put}

pub page_in_plain : PlainLaw → (memory : Contents) (space page : ℕ) → page_in (plain_of memory) space page ≡ option_map plain_page (page_at memory space page)
page_in_plain law memory space page = page_in_is (plain_of memory) space page ∙ law.pages memory space page

-- the areas that a memory has of a space are those of its table
pub record HasOwnTable (memory : Contents) (space : ℕ) (found : PageMap) : Type 0 where
  pub table : Table PageState
  pub is : finmap.get memory.spaces space ≡ Some table
  pub prots : found ≡ prots_of table

pub has_table : (memory : Contents) (space : ℕ) (found : PageMap) → Some found ≡ option_map prots_of (finmap.get memory.spaces space) → HasOwnTable memory space found
has_table memory space found is = by (finmap.get memory.spaces space) refl is
  where
    by : (o : Option (Table PageState)) → finmap.get memory.spaces space ≡ o → Some found ≡ option_map prots_of o → HasOwnTable memory space found
    by None e is = absurd (let f : Some found ≡ None = is in cc)
    by (Some table) e is = record { table = table; is = e; prots = (let f : Some found ≡ Some (prots_of table) = is in cc) }

pub no_table : (memory : Contents) (space : ℕ) → None ≡ option_map prots_of (finmap.get memory.spaces space) → finmap.get memory.spaces space ≡ None
no_table memory space is = by (finmap.get memory.spaces space) refl is
  where
    by : (o : Option (Table PageState)) → finmap.get memory.spaces space ≡ o → None ≡ option_map prots_of o → finmap.get memory.spaces space ≡ None
    by None e is = e
    by (Some table) e is = absurd (let f : None ≡ Some (prots_of table) = is in cc)

prot_seen : (o : Option PageState) → option_map (λ (found : PageState). found.prot) o ≡ option_map (λ (found : plain.Page). found.prot) (option_map plain_page o)
prot_seen o = grind arith

-- a page has the same permissions in both
pub same_prot : PlainLaw → (memory : Contents) (space : ℕ) (found : PageMap) → HasOwnTable memory space found → (page : ℕ)
    → finmap.get found page ≡ option_map (λ (page : plain.Page). page.prot) (page_in (plain_of memory) space page)
same_prot law memory space found has page = grind (arith, prot_seen, page_in_plain)

rise_snoc : (before : ℕ) (tables : List Listed) (table : Listed) → Rise before tables → before < table.space → AllByRecursion (λ (t : Listed). t.space < table.space) tables → Rise before (tables ++ table ∷ [])
rise_snoc before [] table rise above below = (above, tt)
rise_snoc before (t ∷ tables) table rise above below = (rise.0, rise_snoc t.space tables table rise.1 below.0 below.1)

weaker : (tables : List Listed) (m n : ℕ) → m ≤ n → AllByRecursion (λ (t : Listed). t.space < m) tables → AllByRecursion (λ (t : Listed). t.space < n) tables
weaker [] m n le below = tt
weaker (t ∷ tables) m n le below = (omega (arith, le, below.0), weaker tables m n le below.1)

differ : (a b : ℕ) → a < b → nat_eq a b ≡ false
differ a b less = grind (arith, nat_tests)

differ_above : (a b : ℕ) → a < b → nat_eq b a ≡ false
differ_above a b less = grind (arith, nat_tests)

same_number : (a : ℕ) → nat_eq a a ≡ true
same_number a = grind (arith, nat_tests)

none_has : (tables : List Listed) (space : ℕ) → AllByRecursion (λ (t : Listed). t.space < space) tables → list_any (λ (t : Listed). nat_eq t.space space) tables ≡ false
none_has [] space below = refl
none_has (t ∷ tables) space below = ap (λ b. b || list_any (λ (t : Listed). nat_eq t.space space) tables) (differ t.space space below.0) ∙ none_has tables space below.1

-- a space that isn't alive adds nothing
pub nothing_more : (memory : PlainMemory) (space : ℕ) (source tables : List Listed) → finmap.contains_key memory space ≡ false
    → AreSpacesBelow space memory source tables → AreSpacesBelow (space + 1) memory source tables
nothing_more memory space source tables dead was = record {
  rise = was.rise;
  below = weaker tables space (space + 1) (omega arith) was.below;
  each = was.each;
  alive = λ other less. elim (cases_last other space less) [
    | inl e ↦ ap (finmap.contains_key memory) e ∙ dead ∙ sym (ap (λ n. list_any (λ (t : Listed). nat_eq t.space n) tables) e ∙ none_has tables space was.below)
    | inr lower ↦ was.alive other lower
  ];
}
  where
    cases_last : (other space : ℕ) → other < space + 1 → (other ≡ space) ⊎ (other < space)
    cases_last other space less = elim (cases_lt other space) [ inl l ↦ inr l | inr g ↦ inl (omega (arith, less, g)) ]

-- a living space adds its table
pub one_table_more : (memory : PlainMemory) (source tables : List Listed) (table : Listed) → 1 ≤ table.space → finmap.contains_key memory table.space ≡ true
    → AreSpacesBelow table.space memory source tables → IsSpaceOf memory source table
    → AreSpacesBelow (table.space + 1) memory source (tables ++ table ∷ [])
one_table_more memory source tables table least living was is = record {
  rise = rise_snoc 0 tables table was.rise (omega (arith, least)) was.below;
  below = all_put (λ (t : Listed). t.space < table.space + 1) tables table (weaker tables table.space (table.space + 1) (omega arith) was.below) (omega arith);
  each = all_put (IsSpaceOf memory source) tables table was.each is;
  alive = λ other less. elim (cases_last other less) [
    | inl e ↦ ap (finmap.contains_key memory) e ∙ living
        ∙ sym (split other ∙ ap (λ b. list_any (λ (t : Listed). nat_eq t.space other) tables || (b || false)) (ap (nat_eq table.space) e ∙ same_number table.space) ∙ or_true _)
    | inr lower ↦ was.alive other lower
        ∙ sym (split other ∙ ap (λ b. list_any (λ (t : Listed). nat_eq t.space other) tables || (b || false)) (differ_above other table.space lower) ∙ or_false _)
  ];
}
  where
    cases_last : (other : ℕ) → other < table.space + 1 → (other ≡ table.space) ⊎ (other < table.space)
    cases_last other less = elim (cases_lt other table.space) [ inl l ↦ inr l | inr g ↦ inl (omega (arith, less, g)) ]

    split : (other : ℕ) → list_any (λ (t : Listed). nat_eq t.space other) (tables ++ table ∷ []) ≡ (list_any (λ (t : Listed). nat_eq t.space other) tables || (nat_eq table.space other || false))
    split other = list_any-append (λ (t : Listed). nat_eq t.space other) tables (table ∷ [])

    or_true : (b : Bool) → (b || (true || false)) ≡ true
    or_true b = grind arith

    or_false : (b : Bool) → (b || (false || false)) ≡ b
    or_false b = grind arith

-- how many pages there are
pub count_of_none : (memory : Contents) (space : ℕ) → finmap.get memory.spaces space ≡ None → pages_below memory.spaces (space + 1) ≡ pages_below memory.spaces space
count_of_none memory space none =
    let empty : finmap.len (inside memory.spaces space) ≡ 0 = ap (λ o. finmap.len (unwrap_or o finmap.empty)) none ∙ len-empty nat_cmp PageState in
    ap (pages_below memory.spaces) (let e : space + 1 ≡ suc space = omega arith in e) ∙ omega (arith, empty)

pub count_of_table : PlainLaw → areas.CountLaw → (memory : Contents) (tables : List Listed) (table : Listed) (found : PageMap) → HasOwnTable memory table.space found → AreAreasOf found table.areas
    → mapped_count tables ≡ pages_below memory.spaces table.space → mapped_count (tables ++ table ∷ []) ≡ pages_below memory.spaces (table.space + 1)
count_of_table law counts memory tables table found has are was = grind (arith, sum_by-append)

dead_beyond : PlainLaw → (memory : Contents) → IsSound memory → (space : ℕ) → (is_alive memory.spaces space ≡ true → ⊥) → finmap.contains_key (plain_of memory) space ≡ false
dead_beyond law memory sound space dead = law.alive memory space ∙ false_from_ne_true (is_alive memory.spaces space) dead

dead_zero : (memory : Contents) → IsSound memory → is_alive memory.spaces 0 ≡ true → ⊥
dead_zero memory sound alive = omega (arith, (sound.spaces 0 alive).0)

pub dead_high : PlainLaw → (memory : Contents) → IsSound memory → (space : ℕ) → 17 ≤ space → finmap.contains_key (plain_of memory) space ≡ false
dead_high law memory sound space high = dead_beyond law memory sound space (λ alive. omega (arith, high, (sound.spaces space alive).1))

-- no space has a number below 1
pub none_below_one : PlainLaw → (memory : Contents) → IsSound memory → (source tables : List Listed) → tables ≡ [] → AreSpacesBelow 1 (plain_of memory) source tables
none_below_one law memory sound source tables no_tables = grind arith

pub none_counted : (memory : Contents) → IsSound memory → (tables : List Listed) → tables ≡ [] → mapped_count tables ≡ pages_below memory.spaces 1
none_counted memory sound tables no_tables =
    ap mapped_count no_tables ∙ sym (count_of_none memory 0 (no_space (finmap.get memory.spaces 0) (dead_zero memory sound)))
  where
    no_space : (o : Option (Table PageState)) → (is_some o ≡ true → ⊥) → o ≡ None
    no_space None dies = refl
    no_space (Some table) dies = absurd (dies refl)

-- The table of an image in the making.
use Rattle.std.proofs.Common.{◌≡◌, ◌≢◌, ◌⊎◌, ℕ, zero, suc, ◌+◌, ◌<◌, ◌≤◌, Bool, true, false, nat_eq, ◌||◌, ◌&&◌, List, [], ◌∷◌, length, map, sum_by, Contains, Option, Some, None, is_some, IsTrue, refl, sym, ◌∙◌, ap, subst, arith, inl, inr}
use Rattle.std.specs.Prelude.{slice_index_or}
use Rattle.std.specs.List.{AllByRecursion, flat_map, list_any}
use Rattle.std.specs.Option.{option_map, option_and_then}
use Rattle.std.specs.FinMap as finmap
use Rattle.std.proofs.lemmas.Bool.{both_ways, cases_lt, or_right}
use Rattle.std.proofs.lemmas.Bool.Decides.{nat_tests}
use Rattle.std.proofs.lemmas.List.Sums.{sum_by-cons}
use Rattle.sd_areas.specs.declared.area.Area.{Area}
use Rattle.sd_areas.specs.Areas.{AreMaximal, area_pages}
use Rattle.sd_areas.specs.Pages.{is_within}
use Rattle.sd_areas.specs.PlainMemory as plain
use Rattle.sd_areas.specs.PlainMemory.{PlainMemory}
use Rattle.sd_image.specs.declared.header.Header.{Header}
use Rattle.sd_image.specs.declared.header.Kind.{Kind}
use Rattle.sd_image.specs.declared.header.Kind.TheVariants.{PreDump, Dump, Merged}
use Rattle.sd_image.specs.declared.run.Run.{Run}
use Rattle.sd_image.specs.declared.run.RunKind.TheVariants.{Data}
use Rattle.sd_image.specs.Shows.{page_in}
use Rattle.sd_image.specs.Table.{AreRuns, AreSpaces, Covers, Listed, data_count, is_run_after, mapped_count, run_pages}
use Rattle.sd_pagetable.specs.Contents.{Contents, page_at, plain_of}
use Rattle.sd_pagetable.specs.Law.{PlainLaw}
use Rattle.sd_pagetable.specs.Page.{PageState, plain_page}
use Rattle.sd_writing.specs.Entries.{Lists, entries_listed, run_entries, ImageEntry, Place, data_pages}
use Rattle.sd_rounds.specs.declared.image_order.ImageOrder.{ImageOrder}
use Rattle.sd_rounds.specs.Making.{AreThePages, HasTable, TablesMemory}
use Rattle.sd_writing.specs.Tables.{TablesEntries, AreTables}
use Rattle.sd_rounds.specs.Pass.{Pass}
use Rattle.sd_rounds.specs.Rises.{kind_at}
use Rattle.sd_rounds.specs.Rounds.{entry_parent}
use Rattle.sd_rounds.specs.SpaceTables.{AreAllSpaces, AreLow, IsSpaceOf, Rise, without_areas}
use Rattle.sd_image.proofs.PageBytes.{counted_spaces as pages_counted}
use Rattle.sd_rounds.proofs.DumpTableLemmas.{Among, HaveRunsOf, all_listed, covers, kind_append, runs_have, runs_of_space}
use Rattle.sd_rounds.proofs.RisingNumbers.{has, has_append, has_pages}
use Rattle.sd_rounds.proofs.SpaceTableLemmas.{page_in_plain}

-- ---- runs for any parent

sourced : (n : ℕ) (before : Option Run) (run : Run) → 0 < n → IsTrue (is_run_after 1 before run) → IsTrue (is_run_after n before run)
sourced n before run some after = grind (arith, nat_tests)

sourced_runs : (n : ℕ) (before : Option Run) (runs : List Run) → 0 < n → AreRuns 1 before runs → AreRuns n before runs
sourced_runs n before [] some are = tt
sourced_runs n before (run ∷ runs) some are = (sourced n before run some are.0, sourced_runs n (Some run) runs some are.1)

-- where the pass takes all pages exactly where the image has no parent, its runs fit the image
pub own_runs : (parent : ℕ) (takes_all : Bool) (runs : List Run) → takes_all ≡ nat_eq parent 0 → AreRuns (entry_parent takes_all) None runs → AreRuns parent None runs
own_runs zero takes_all runs e are = subst (λ b. AreRuns (entry_parent b) None runs) e are
own_runs (suc n) takes_all runs e are = sourced_runs (suc n) None runs (omega arith) (subst (λ b. AreRuns (entry_parent b) None runs) (e ∙ above n) are)
  where
    above : (n : ℕ) → nat_eq (suc n) 0 ≡ false
    above n = grind (arith, nat_tests)

-- ---- counts

all_at : {X : Type 0} (P : X → Type 0) (xs : List X) (x : X) → AllByRecursion P xs → Contains xs x → P x
all_at {X = X} P xs x all c = at xs all c.0 c.1 c.2
  where
    at : (xs : List X) → AllByRecursion P xs → (k : ℕ) → k < length xs → slice_index_or xs k x ≡ x → P x
    at [] all k within is = absurd (omega arith)
    at (y ∷ xs) all zero within is = subst P is all.0
    at (y ∷ xs) all (suc k) within is = at xs all.1 k (omega arith) is

-- rising spaces up to 16 are at most 16
few_rising : (before : ℕ) (spaces : List Listed) → Rise before spaces → AllByRecursion (λ (s : Listed). s.space ≤ 16) spaces → before ≤ 16 → length spaces + before ≤ 16
few_rising before [] rise within low = let none : length {A = Listed} [] ≡ 0 = refl in omega arith
few_rising before (s ∷ spaces) rise within low =
    let rest : length spaces + s.space ≤ 16 = few_rising s.space spaces rise.1 within.1 within.0 in
    let above : before < s.space = rise.0 in
    omega arith

-- ---- a pre-dump

from_least : (before space : ℕ) → before + 1 ≤ space → before < space
from_least before space least = omega arith

same_without : (parent before : ℕ) (tables : List Listed) → AreTables parent (before + 1) tables → map without_areas tables ≡ tables
same_without parent before [] are = refl
same_without parent before (t ∷ tables) are =
    ap (λ (a : List Area). (record { space = t.space; areas = a; runs = t.runs }) ∷ map without_areas tables) (sym are.0.no_areas)
    ∙ ap (λ (l : List Listed). t ∷ l) (same_without parent t.space tables are.1)

rise_of : (parent before : ℕ) (tables : List Listed) → AreTables parent (before + 1) tables → Rise before tables
rise_of parent before [] are = tt
rise_of parent before (t ∷ tables) are = (from_least before t.space are.0.from, rise_of parent t.space tables are.1)

none_mapped : (parent before : ℕ) (tables : List Listed) → AreTables parent (before + 1) tables → mapped_count tables ≡ 0
none_mapped parent before [] are = refl
none_mapped parent before (t ∷ tables) are =
    sum_by-cons (λ (s : Listed). sum_by (λ (a : Area). a.count) s.areas) t tables
    ∙ ap (λ (areas : List Area). sum_by (λ (a : Area). a.count) areas + mapped_count tables) are.0.no_areas
    ∙ (let none : sum_by (λ (a : Area). a.count) [] ≡ 0 = refl in let rest : mapped_count tables ≡ 0 = none_mapped parent t.space tables are.1 in omega arith)

pre_dump_spaces : (takes_all : Bool) (h : Header) (before : ℕ) (tables : List Listed) → h.kind ≡ PreDump → takes_all ≡ nat_eq h.parent 0
    → AreTables (entry_parent takes_all) (before + 1) tables → AreLow tables → AreSpaces h before tables
pre_dump_spaces takes_all h before [] kind takes are low = tt
pre_dump_spaces takes_all h before (t ∷ tables) kind takes are low = (
  record {
    above = from_least before t.space are.0.from;
    within = low.0;
    few_areas = subst (λ (a : List Area). length a ≤ 1024) (sym are.0.no_areas) (omega arith);
    areas = subst (λ (a : List Area). AreMaximal None a) (sym are.0.no_areas) tt;
    runs = own_runs h.parent takes_all t.runs takes are.0.runs;
    covers = subst (λ k. Covers k t.areas t.runs) (sym kind) (are.0.no_areas, are.0.some);
  },
  pre_dump_spaces takes_all h t.space tables kind takes are.1 low.1,
)

data_listed : (entries : List ImageEntry) (spaces : List Listed) → Lists entries spaces → data_count spaces ≡ data_pages entries
data_listed entries spaces lists = sym (pages_counted spaces) ∙ ap (λ (l : List Place). length l) (lists Data)

-- the entries as they are kept are the table of a pre-dump
pub pre_dump : (takes_all : Bool) (h : Header) (entries : List ImageEntry) (kept spaces : List Listed) → ((l : List Listed) → Lists (entries_listed l) l)
    → h.kind ≡ PreDump → takes_all ≡ nat_eq h.parent 0 → h.pages ≡ data_pages entries
    → AreTables (entry_parent takes_all) 1 kept → AreLow kept → entries_listed kept ≡ entries → spaces ≡ map without_areas kept → TablesEntries entries h spaces
pre_dump takes_all h entries kept spaces law kind takes pages are low same made =
    subst (λ (l : List Listed). TablesEntries entries h l) (sym (made ∙ same_without (entry_parent takes_all) 0 kept are)) (record {
      lists = lists;
      is = record {
        few = let f : length kept + 0 ≤ 16 = few_rising 0 kept (rise_of (entry_parent takes_all) 0 kept are) low (omega arith) in omega arith;
        each = pre_dump_spaces takes_all h 0 kept kind takes are low;
        «data» = data_listed entries kept lists ∙ sym pages;
        mapped = subst (λ n. n ≤ 65536) (sym (none_mapped (entry_parent takes_all) 0 kept are)) (omega arith);
      };
    })
  where
    lists : Lists entries kept
    lists = subst (λ (e : List ImageEntry). Lists e kept) same (law kept)

-- ---- a dump

within_of : (memory : PlainMemory) (kept spaces : List Listed) → AllByRecursion (IsSpaceOf memory kept) spaces → AllByRecursion (λ (s : Listed). s.space ≤ 16) spaces
within_of memory kept [] each = tt
within_of memory kept (s ∷ spaces) each = (each.0.within, within_of memory kept spaces each.1)

runs_of : (memory : PlainMemory) (kept spaces : List Listed) → AllByRecursion (IsSpaceOf memory kept) spaces → HaveRunsOf kept spaces
runs_of memory kept [] each = tt
runs_of memory kept (s ∷ spaces) each = (each.0.runs, runs_of memory kept spaces each.1)

-- the entries are the pages of a plain memory
abbrev AreItsPages : PlainMemory → List ImageEntry → Type 0
AreItsPages memory entries = (space page : ℕ) → is_some (kind_at entries (space, page)) ≡ is_some (page_in memory space page)

is_covered : (kind : Kind) (areas : List Area) (runs : List Run) → kind ≢ PreDump → flat_map run_pages runs ≡ flat_map area_pages areas → Covers kind areas runs
is_covered kind areas runs other e = grind arith

dump_spaces : (takes_all : Bool) (h : Header) (memory : PlainMemory) (before : ℕ) (kept spaces : List Listed) → h.kind ≢ PreDump → takes_all ≡ nat_eq h.parent 0
    → AreTables (entry_parent takes_all) 1 kept → AreItsPages memory (entries_listed kept) → Rise before spaces → AllByRecursion (IsSpaceOf memory kept) spaces → AreSpaces h before spaces
dump_spaces takes_all h memory before kept [] kind takes are pages rise each = tt
dump_spaces takes_all h memory before kept (s ∷ spaces) kind takes are pages rise each = (
  record {
    above = rise.0;
    within = each.0.within;
    few_areas = each.0.few;
    areas = each.0.maximal;
    runs = own_runs h.parent takes_all s.runs takes (subst (AreRuns (entry_parent takes_all) None) (sym each.0.runs) (runs_of_space (entry_parent takes_all) 0 kept s.space are));
    covers = is_covered h.kind s.areas s.runs kind (covers (entry_parent takes_all) memory kept s are each.0 pages);
  },
  dump_spaces takes_all h memory s.space kept spaces kind takes are pages rise.1 each.1,
)

-- the first page of a space's runs
has_first : (parent : ℕ) (runs : List Run) → AreRuns parent None runs → runs ≢ [] → (page : ℕ) × (has page (flat_map run_pages runs) ≡ true)
has_first parent [] are some = absurd (some refl)
has_first parent (run ∷ runs) are some = (
  run.first,
  has_append run.first (run_pages run) (flat_map run_pages runs)
      ∙ ap (λ b. b || has run.first (flat_map run_pages runs)) (has_pages run.first run.count run.first ∙ at_first run are.0),
)
  where
    at_first : (run : Run) → IsTrue (is_run_after parent None run) → is_within run.first run.count run.first ≡ true
    at_first run after = grind (arith, nat_tests)

alive_there : (memory : PlainMemory) (space page : ℕ) → is_some (page_in memory space page) ≡ true → finmap.contains_key memory space ≡ true
alive_there memory space page some = by (finmap.get memory space) some
  where
    by : (o : Option plain.Space) → is_some (option_and_then (λ pages. finmap.get pages page) o) ≡ true → is_some o ≡ true
    by None e = absurd (both_ways false refl e)
    by (Some pages) e = refl

-- spaces with entries are among those that have the entries' pages
among : (parent before : ℕ) (spaces rest : List Listed) → AreTables parent (before + 1) rest
    → ((space page : ℕ) → is_some (kind_at (entries_listed rest) (space, page)) ≡ true → list_any (λ (s : Listed). nat_eq s.space space) spaces ≡ true) → Among spaces rest
among parent before spaces [] are law = tt
among parent before spaces (t ∷ rest) are law =
    let first = has_first parent t.runs are.0.runs are.0.some in (
      law t.space first.0 (split t.space first.0
          ∙ ap (λ b. b || is_some (kind_at (entries_listed rest) (t.space, first.0)))
          (runs_have t.space t.runs (t.space, first.0) ∙ ap (λ b. b && has first.0 (flat_map run_pages t.runs)) (same_number t.space) ∙ first.1)),
      among parent t.space spaces rest are.1 (λ space page e. law space page (split space page ∙ or_right _ _ e)),
    )
  where
    split : (space page : ℕ) → is_some (kind_at (entries_listed (t ∷ rest)) (space, page))
        ≡ (is_some (kind_at (flat_map (run_entries t.space) t.runs) (space, page)) || is_some (kind_at (entries_listed rest) (space, page)))
    split space page = kind_append (flat_map (run_entries t.space) t.runs) (entries_listed rest) (space, page)

    same_number : (a : ℕ) → nat_eq a a ≡ true
    same_number a = grind (arith, nat_tests)

-- a living space is among them
living : (memory : PlainMemory) (kept spaces : List Listed) (space : ℕ) → AreAllSpaces memory kept spaces → finmap.contains_key memory space ≡ list_any (λ (s : Listed). nat_eq s.space space) spaces
living memory kept spaces space are = elim (cases_lt space 17) [
  | inl less ↦ are.all.alive space less
  | inr more ↦ are.alive space (omega arith) ∙ sym (none_high spaces are.all.below (omega arith))
]
  where
    none_high : (tables : List Listed) → AllByRecursion (λ (t : Listed). t.space < 17) tables → 17 ≤ space → list_any (λ (s : Listed). nat_eq s.space space) tables ≡ false
    none_high [] below high = refl
    none_high (t ∷ tables) below high = ap (λ b. b || list_any (λ (s : Listed). nat_eq s.space space) tables) (differ t.space space (omega (arith, below.0, high))) ∙ none_high tables below.1 high
      where
        differ : (a b : ℕ) → a < b → nat_eq a b ≡ false
        differ a b less = grind (arith, nat_tests)

-- the table of a dump, where the entries are the pages of the memory
pub dump : PlainLaw → (takes_all : Bool) (h : Header) (memory : Contents) (entries : List ImageEntry) (kept spaces : List Listed) → ((l : List Listed) → Lists (entries_listed l) l)
    → h.kind ≢ PreDump → takes_all ≡ nat_eq h.parent 0 → h.pages ≡ data_pages entries
    → AreTables (entry_parent takes_all) 1 kept → entries_listed kept ≡ entries → AreAllSpaces (plain_of memory) kept spaces → AreThePages entries memory → TablesMemory memory entries h spaces
dump plain takes_all h memory entries kept spaces law kind takes pages are same all these = record {
  table = record {
    lists = lists;
    is = record {
      few = let f : length spaces + 0 ≤ 16 = few_rising 0 spaces all.all.rise (within_of (plain_of memory) kept spaces all.all.each) (omega arith) in omega arith;
      each = dump_spaces takes_all h (plain_of memory) 0 kept spaces kind takes are own all.all.rise all.all.each;
      «data» = data_listed entries spaces lists ∙ sym pages;
      mapped = all.few;
    };
  };
  areas = record {
    alive = λ space. living (plain_of memory) kept spaces space all;
    areas = λ s among page. (all_at (IsSpaceOf (plain_of memory) kept) spaces s all.all.each among).same page;
  };
}
  where
    own : AreItsPages (plain_of memory) (entries_listed kept)
    own space page =
        ap (λ (e : List ImageEntry). is_some (kind_at e (space, page))) same ∙ these space page
        ∙ sym (some_plain (page_at memory space page)) ∙ ap (λ o. is_some o) (sym (page_in_plain plain memory space page))
      where
        some_plain : (o : Option PageState) → is_some (option_map plain_page o) ≡ is_some o
        some_plain None = refl
        some_plain (Some page) = refl

    whole : entries_listed spaces ≡ entries_listed kept
    whole = all_listed (entry_parent takes_all) 0 kept spaces are all.all.rise (runs_of (plain_of memory) kept spaces all.all.each)
        (among (entry_parent takes_all) 0 spaces kept are
        (λ space page e. sym (living (plain_of memory) kept spaces space all) ∙ alive_there (plain_of memory) space page (sym (own space page) ∙ e)))

    lists : Lists entries spaces
    lists = subst (λ (e : List ImageEntry). Lists e spaces) (whole ∙ same) (law spaces)

-- ---- as the code makes them

pub pre_dump_for : (order : ImageOrder) (pass : Pass) (memory : Contents) (h : Header) (kept spaces : List Listed) → ((l : List Listed) → Lists (entries_listed l) l)
    → order.kind ≡ PreDump → h.kind ≡ order.kind → h.parent ≡ order.parent → h.pages ≡ data_pages pass.entries → pass.takes_all ≡ nat_eq order.parent 0
    → AreTables (entry_parent pass.takes_all) 1 kept → AreLow kept → entries_listed kept ≡ pass.entries → spaces ≡ map without_areas kept
    → HasTable order.kind memory pass.entries h spaces
pre_dump_for order pass memory h kept spaces law is kind parent pages takes are low same made = grind (arith, pre_dump)

other_kind : (kind : Kind) → kind ≢ PreDump → (memory : Contents) (entries : List ImageEntry) (h : Header) (spaces : List Listed)
    → (AreThePages entries memory → TablesMemory memory entries h spaces) → HasTable kind memory entries h spaces
other_kind kind other memory entries h spaces has = grind arith

pub dump_for : PlainLaw → (order : ImageOrder) (pass : Pass) (memory : Contents) (h : Header) (kept spaces : List Listed) → ((l : List Listed) → Lists (entries_listed l) l)
    → order.kind ≢ PreDump → h.kind ≡ order.kind → h.parent ≡ order.parent → h.pages ≡ data_pages pass.entries → pass.takes_all ≡ nat_eq order.parent 0
    → AreTables (entry_parent pass.takes_all) 1 kept → entries_listed kept ≡ pass.entries → AreAllSpaces (plain_of memory) kept spaces
    → HasTable order.kind memory pass.entries h spaces
dump_for plain order pass memory h kept spaces law is kind parent pages takes are same made = grind (arith, other_kind, dump)

no_pre_dump : Dump ≡ PreDump → ⊥
no_pre_dump e = cc

no_merged : Merged ≡ PreDump → ⊥
no_merged e = cc

pub is_other : (kind : Kind) → (kind ≡ Dump) ⊎ (kind ≡ Merged) → kind ≢ PreDump
is_other kind given = grind arith

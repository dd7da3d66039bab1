-- The table of a dump has the entries of its pass, and the areas of the memory.
use Rattle.std.proofs.Common.{◌≡◌, ℕ, ◌+◌, ◌<◌, ◌≤◌, ◌^◌, Bool, true, false, nat_eq, ◌||◌, ◌&&◌, if◌then◌else◌, List, [], ◌∷◌, ◌++◌, map, Option, Some, None, is_some, IsTrue, refl, sym, ◌∙◌, ap, subst, arith, inl, inr}
use Rattle.std.specs.List.{AllByRecursion, flat_map, list_any}
use Rattle.std.specs.Option.{option_map}
use Rattle.std.proofs.lemmas.Bool.{both_ways, cases_lt, eqb-true}
use Rattle.std.proofs.lemmas.Bool.Decides.{nat_tests}
use Rattle.std.proofs.Math.Bool.{or-false}
use Rattle.sd_areas.specs.declared.area.Area.{Area}
use Rattle.sd_areas.specs.Areas.{AreMaximal, area_pages, is_area_after, prot_in}
use Rattle.sd_areas.specs.Pages.{is_within}
use Rattle.sd_areas.specs.PlainMemory as plain
use Rattle.sd_areas.specs.PlainMemory.{PlainMemory}
use Rattle.sd_image.specs.declared.run.Run.{Run}
use Rattle.sd_image.specs.declared.run.RunKind.{RunKind}
use Rattle.sd_image.specs.Shows.{page_in}
use Rattle.sd_image.specs.Table.{AreRuns, Listed, is_run_after, run_pages}
use Rattle.sd_pagetable.specs.Tracking.{is_page}
use Rattle.sd_writing.specs.Entries.{Place, ImageEntry, entries_listed, run_entries}
use Rattle.sd_rounds.specs.Rises.{kind_at}
use Rattle.sd_rounds.specs.SpaceTables.{IsSpaceOf, Rise, space_runs}
use Rattle.sd_writing.specs.Tables.{AreTables}
use Rattle.sd_rounds.proofs.RisingNumbers.{Between, between_append, between_low, has, has_append, has_pages, pages_between, same_members}

-- ---- Which pages entries have

pub kind_append : (one other : List ImageEntry) (at : Place) → is_some (kind_at (one ++ other) at) ≡ (is_some (kind_at one at) || is_some (kind_at other at))
kind_append [] other at = refl
kind_append (e ∷ one) other at = by (is_page e.place.0 e.place.1 at.0 at.1) (kind_append one other at)
  where
    by : (b : Bool) → is_some (kind_at (one ++ other) at) ≡ (is_some (kind_at one at) || is_some (kind_at other at))
        → is_some (if b then Some e.kind else kind_at (one ++ other) at) ≡ (is_some (if b then Some e.kind else kind_at one at) || is_some (kind_at other at))
    by true tail = refl
    by false tail = tail

run_has : (space : ℕ) (kind : RunKind) (pages : List ℕ) (at : Place)
    → is_some (kind_at (map (λ page. record { place = (space, page); kind = kind }) pages) at) ≡ (nat_eq space at.0 && has at.1 pages)
run_has space kind [] at = none (nat_eq space at.0)
  where
    none : (b : Bool) → false ≡ (b && false)
    none true = refl
    none false = refl
run_has space kind (page ∷ pages) at = by (run_has space kind pages at) (nat_eq space at.0) refl (nat_eq page at.1)
  where
    by : is_some (kind_at (map (λ page. record { place = (space, page); kind = kind }) pages) at) ≡ (nat_eq space at.0 && has at.1 pages)
        → (s : Bool) → nat_eq space at.0 ≡ s → (p : Bool)
        → is_some (if s && p then Some kind else kind_at (map (λ page. record { place = (space, page); kind = kind }) pages) at) ≡ (s && (p || has at.1 pages))
    by tail true e true = refl
    by tail true e false = tail ∙ ap (λ b. b && has at.1 pages) e
    by tail false e p = tail ∙ ap (λ b. b && has at.1 pages) e

pub runs_have : (space : ℕ) (runs : List Run) (at : Place) → is_some (kind_at (flat_map (run_entries space) runs) at) ≡ (nat_eq space at.0 && has at.1 (flat_map run_pages runs))
runs_have space [] at = none (nat_eq space at.0)
  where
    none : (b : Bool) → false ≡ (b && false)
    none true = refl
    none false = refl
runs_have space (run ∷ runs) at =
    kind_append (run_entries space run) (flat_map (run_entries space) runs) at
    ∙ ap (λ b. b || is_some (kind_at (flat_map (run_entries space) runs) at)) (run_has space run.kind (run_pages run) at)
    ∙ ap (λ b. (nat_eq space at.0 && has at.1 (run_pages run)) || b) (runs_have space runs at)
    ∙ both (nat_eq space at.0) (has at.1 (run_pages run)) (has at.1 (flat_map run_pages runs))
    ∙ ap (λ b. nat_eq space at.0 && b) (sym (has_append at.1 (run_pages run) (flat_map run_pages runs)))
  where
    both : (s a b : Bool) → ((s && a) || (s && b)) ≡ (s && (a || b))
    both true a b = refl
    both false a b = refl

differ : (a b : ℕ) → a < b → nat_eq b a ≡ false
differ a b less = grind (arith, nat_tests)

none_above : (parent before : ℕ) (source : List Listed) (at : Place) → AreTables parent (before + 1) source → at.0 ≤ before → is_some (kind_at (entries_listed source) at) ≡ false
none_above parent before [] at are low = refl
none_above parent before (t ∷ source) at are low =
    kind_append (flat_map (run_entries t.space) t.runs) (entries_listed source) at
    ∙ ap (λ b. b || is_some (kind_at (entries_listed source) at)) (runs_have t.space t.runs at ∙ ap (λ b. b && has at.1 (flat_map run_pages t.runs)) (differ at.0 t.space (omega (arith, low, are.0.from))))
    ∙ none_above parent t.space source at are.1 (omega (arith, low, are.0.from))

-- the pages of a space that have entries are those of its runs
pub runs_have_entries : (parent before : ℕ) (source : List Listed) (space page : ℕ) → AreTables parent (before + 1) source
    → is_some (kind_at (entries_listed source) (space, page)) ≡ has page (flat_map run_pages (space_runs source space))
runs_have_entries parent before [] space page are = refl
runs_have_entries parent before (t ∷ source) space page are =
    kind_append (flat_map (run_entries t.space) t.runs) (entries_listed source) (space, page)
    ∙ ap (λ b. b || is_some (kind_at (entries_listed source) (space, page))) (runs_have t.space t.runs (space, page))
    ∙ by (runs_have_entries parent t.space source space page are.1) (nat_eq t.space space) refl
  where
    by : is_some (kind_at (entries_listed source) (space, page)) ≡ has page (flat_map run_pages (space_runs source space))
        → (b : Bool) → nat_eq t.space space ≡ b → ((b && has page (flat_map run_pages t.runs)) || is_some (kind_at (entries_listed source) (space, page)))
        ≡ has page (flat_map run_pages (if b then t.runs else space_runs source space))
    by tail true e =
        ap (λ b. has page (flat_map run_pages t.runs) || b) (none_above parent t.space source (space, page) are.1 (let f : t.space ≡ space = eqb-true t.space space e in omega arith))
        ∙ or-false (has page (flat_map run_pages t.runs))
    by tail false e = tail

-- ---- Pages of areas and runs rise

areas_have : (areas : List Area) (page : ℕ) → has page (flat_map area_pages areas) ≡ is_some (prot_in areas page)
areas_have [] page = refl
areas_have (area ∷ areas) page =
    has_append page (area_pages area) (flat_map area_pages areas) ∙ ap (λ b. b || has page (flat_map area_pages areas)) (has_pages area.first area.count page)
    ∙ ap (λ b. is_within area.first area.count page || b) (areas_have areas page) ∙ by (is_within area.first area.count page)
  where
    by : (b : Bool) → (b || is_some (prot_in areas page)) ≡ is_some (if b then Some area.prot else prot_in areas page)
    by true = refl
    by false = refl

abbrev end_of_area : Option Area → ℕ
end_of_area None = 0
end_of_area (Some area) = area.first + area.count

area_begins : (before : Option Area) (area : Area) → IsTrue (is_area_after before area) → (end_of_area before ≤ area.first) × (area.first + area.count ≤ 2 ^ 35)
area_begins before area after = grind arith

areas_rise : (before : Option Area) (areas : List Area) → AreMaximal before areas → end_of_area before ≤ 2 ^ 35 → Between (end_of_area before) (flat_map area_pages areas) (2 ^ 35)
areas_rise before [] are low = low
areas_rise before (area ∷ areas) are low =
    let own = area_begins before area are.0 in
    between_low area.first (end_of_area before) (2 ^ 35) (flat_map area_pages (area ∷ areas)) own.0
    (between_append area.first (area.first + area.count) (2 ^ 35) (area_pages area) (flat_map area_pages areas) (pages_between area.first area.count)
    (areas_rise (Some area) areas are.1 own.1))

abbrev end_of_run : Option Run → ℕ
end_of_run None = 0
end_of_run (Some run) = run.first + run.count

run_begins : (parent : ℕ) (before : Option Run) (run : Run) → IsTrue (is_run_after parent before run) → (end_of_run before ≤ run.first) × (run.first + run.count ≤ 2 ^ 35)
run_begins parent before run after = grind arith

runs_rise : (parent : ℕ) (before : Option Run) (runs : List Run) → AreRuns parent before runs → end_of_run before ≤ 2 ^ 35 → Between (end_of_run before) (flat_map run_pages runs) (2 ^ 35)
runs_rise parent before [] are low = low
runs_rise parent before (run ∷ runs) are low =
    let own = run_begins parent before run are.0 in
    between_low run.first (end_of_run before) (2 ^ 35) (flat_map run_pages (run ∷ runs)) own.0
    (between_append run.first (run.first + run.count) (2 ^ 35) (run_pages run) (flat_map run_pages runs) (pages_between run.first run.count)
    (runs_rise parent (Some run) runs are.1 own.1))

pub runs_of_space : (parent before : ℕ) (source : List Listed) (space : ℕ) → AreTables parent (before + 1) source → AreRuns parent None (space_runs source space)
runs_of_space parent before [] space are = tt
runs_of_space parent before (t ∷ source) space are = by (runs_of_space parent t.space source space are.1) (nat_eq t.space space)
  where
    by : AreRuns parent None (space_runs source space) → (b : Bool) → AreRuns parent None (if b then t.runs else space_runs source space)
    by tail true = are.0.runs
    by tail false = tail

-- where the entries are the memory's pages, a space's runs have exactly the pages of its areas
pub covers : (parent : ℕ) (memory : PlainMemory) (source : List Listed) (t : Listed) → AreTables parent 1 source → IsSpaceOf memory source t
    → ((space page : ℕ) → is_some (kind_at (entries_listed source) (space, page)) ≡ is_some (page_in memory space page))
    → flat_map run_pages t.runs ≡ flat_map area_pages t.areas
covers parent memory source t are is pages =
    same_members 0 0 (2 ^ 35) (2 ^ 35) (flat_map run_pages t.runs) (flat_map area_pages t.areas)
    (runs_rise parent None t.runs (subst (AreRuns parent None) (sym is.runs) (runs_of_space parent 0 source t.space are)) (omega arith))
    (areas_rise None t.areas is.maximal (omega arith))
    (λ page. ap (λ (r : List Run). has page (flat_map run_pages r)) is.runs ∙ sym (runs_have_entries parent 0 source t.space page are)
    ∙ pages t.space page ∙ sym (some_prot (page_in memory t.space page)) ∙ ap (λ o. is_some o) (sym (is.same page)) ∙ sym (areas_have t.areas page))
  where
    some_prot : (o : Option plain.Page) → is_some (option_map (λ (found : plain.Page). found.prot) o) ≡ is_some o
    some_prot None = refl
    some_prot (Some page) = refl

-- ---- All entries are listed

-- the spaces that have entries are among these
abbrev pub Among : List Listed → List Listed → Type 0
Among tables = AllByRecursion (λ (t : Listed). list_any (λ (s : Listed). nat_eq s.space t.space) tables ≡ true)

pub none_rising : (before space : ℕ) (tables : List Listed) → Rise before tables → space ≤ before → list_any (λ (s : Listed). nat_eq s.space space) tables ≡ false
none_rising before space [] rise low = refl
none_rising before space (s ∷ tables) rise low =
    ap (λ b. b || list_any (λ (s : Listed). nat_eq s.space space) tables) (differ space s.space (omega (arith, low, rise.0)))
    ∙ none_rising s.space space tables rise.1 (omega (arith, low, rise.0))

none_in : (parent before space : ℕ) (source : List Listed) → AreTables parent (before + 1) source → space ≤ before → space_runs source space ≡ []
none_in parent before space [] are low = refl
none_in parent before space (t ∷ source) are low =
    ap (λ b. if b then t.runs else space_runs source space) (differ space t.space (omega (arith, low, are.0.from)))
    ∙ none_in parent t.space space source are.1 (omega (arith, low, are.0.from))

abbrev pub HaveRunsOf : List Listed → List Listed → Type 0
HaveRunsOf source = AllByRecursion (λ (s : Listed). s.runs ≡ space_runs source s.space)

-- above its first space, tables have the runs of the others
have_others : (before : ℕ) (t : Listed) (source tables : List Listed) → Rise before tables → t.space ≤ before → HaveRunsOf (t ∷ source) tables → HaveRunsOf source tables
have_others before t source [] rise low have = tt
have_others before t source (s ∷ tables) rise low have = (
  have.0 ∙ ap (λ b. if b then t.runs else space_runs source s.space) (differ_below t.space s.space (omega (arith, low, rise.0))),
  have_others s.space t source tables rise.1 (omega (arith, low, rise.0)) have.1,
)
  where
    differ_below : (a b : ℕ) → a < b → nat_eq a b ≡ false
    differ_below a b less = grind (arith, nat_tests)

others_among : (parent : ℕ) (s : Listed) (tables source : List Listed) (before : ℕ) → s.space ≤ before → AreTables parent (before + 1) source → Among (s ∷ tables) source → Among tables source
others_among parent s tables [] before low are among = tt
others_among parent s tables (t ∷ source) before low are among = (
  sym (ap (λ b. b || list_any (λ (s : Listed). nat_eq s.space t.space) tables) (differ_below s.space t.space (omega (arith, low, are.0.from)))) ∙ among.0,
  others_among parent s tables source t.space (omega (arith, low, are.0.from)) are.1 among.1,
)
  where
    differ_below : (a b : ℕ) → a < b → nat_eq a b ≡ false
    differ_below a b less = grind (arith, nat_tests)

pub all_listed : (parent before : ℕ) (source tables : List Listed) → AreTables parent (before + 1) source → Rise before tables → HaveRunsOf source tables → Among tables source
    → entries_listed tables ≡ entries_listed source
all_listed parent before [] [] are rise have among = refl
all_listed parent before (t ∷ source) [] are rise have among = absurd (both_ways false refl among.0)
all_listed parent before [] (s ∷ tables) are rise have among =
    ap (λ (r : List Run). flat_map (run_entries s.space) r ++ entries_listed tables) have.0
    ∙ all_listed parent s.space [] tables tt rise.1 have.1 tt
all_listed parent before (t ∷ source) (s ∷ tables) are rise have among = elim (cases_lt t.space s.space) [
  | inl less ↦ absurd (both_ways false refl
      (sym (ap (λ b. b || list_any (λ (s : Listed). nat_eq s.space t.space) tables) (differ t.space s.space less) ∙ none_rising s.space t.space tables rise.1 (omega arith)) ∙ among.0))
  | inr not_less ↦ elim (cases_lt s.space t.space) [
    | inl less ↦
        ap (λ (r : List Run). flat_map (run_entries s.space) r ++ entries_listed tables) (have.0 ∙ none s.space less)
        ∙ all_listed parent s.space (t ∷ source) tables (lifted less) rise.1 have.1 (others_among parent s tables (t ∷ source) s.space (omega arith) (lifted less) among)
    | inr not_more ↦
        let e : s.space ≡ t.space = omega arith in
        same e (all_listed parent t.space source tables are.1 (subst (λ n. Rise n tables) e rise.1)
        (have_others s.space t source tables rise.1 (omega arith) have.1)
        (others_among parent s tables source t.space (omega arith) are.1 among.1))
  ]
]
  where
    lifted : s.space < t.space → AreTables parent (s.space + 1) (t ∷ source)
    lifted less = (record { from = (omega (arith, less)); no_areas = are.0.no_areas; runs = are.0.runs; some = are.0.some }, are.1)

    none : (space : ℕ) → space < t.space → space_runs (t ∷ source) space ≡ []
    none space less = ap (λ b. if b then t.runs else space_runs source space) (differ space t.space less) ∙ none_in parent t.space space source are.1 (omega arith)

    same : s.space ≡ t.space → entries_listed tables ≡ entries_listed source → entries_listed (s ∷ tables) ≡ entries_listed (t ∷ source)
    same e tail =
        ap (λ (r : List Run). flat_map (run_entries s.space) r ++ entries_listed tables)
        (have.0 ∙ ap (λ b. if b then t.runs else space_runs source s.space) (ap (nat_eq t.space) e ∙ same_number t.space))
        ∙ ap (λ n. flat_map (run_entries n) t.runs ++ entries_listed tables) e
        ∙ ap (λ (l : List ImageEntry). flat_map (run_entries t.space) t.runs ++ l) tail
      where
        same_number : (a : ℕ) → nat_eq a a ≡ true
        same_number a = grind (arith, nat_tests)

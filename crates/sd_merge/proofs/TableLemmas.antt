-- The table that has the areas of a source, and the pages that were taken of it.
use Rattle.std.proofs.Common.{◌≡◌, ◌≢◌, ℕ, zero, suc, ◌+◌, ◌<◌, ◌≤◌, Bool, true, false, nat_eq, if◌then◌else◌, List, [], ◌∷◌, ◌++◌, length, map, sum_by, Option, Some, None, IsTrue, refl, sym, ◌∙◌, ap, subst, arith}
use Rattle.std.specs.List.{AllByRecursion, flat_map}
use Rattle.std.proofs.lemmas.Bool.Decides.{nat_tests}
use Rattle.std.proofs.lemmas.List.{map-append}
use Rattle.std.proofs.lemmas.List.Sums.{sum_by-cons}
use Rattle.sd_merge.proofs.PageLemmas.{equal}
use Rattle.sd_areas.specs.declared.area.Area.{Area}
use Rattle.sd_areas.specs.Areas.{area_pages}
use Rattle.sd_areas.specs.Pages.{pages_from}
use Rattle.sd_image.specs.declared.header.Header.{Header}
use Rattle.sd_image.specs.declared.header.Kind.{Kind}
use Rattle.sd_image.specs.declared.header.Kind.TheVariants.{PreDump, Merged}
use Rattle.sd_image.specs.declared.run.Run.{Run}
use Rattle.sd_image.specs.declared.run.RunKind.TheVariants.{Data}
use Rattle.sd_image.specs.Table.{AreRuns, AreSpaces, Covers, IsSpace, Listed, is_run_after, mapped_count, run_pages}
use Rattle.sd_writing.specs.Entries.{Lists, entries_listed, run_entries, ImageEntry, Place, place_of_entry}
use Rattle.sd_merge.specs.Gathered.{IsTableOf, RepeatsTable, front_runs, own_areas, spaces_after, tables_of}
use Rattle.sd_image.proofs.PageBytes.{counted_spaces as pages_counted}
use Rattle.sd_writing.proofs.TableLemmas.{table_entries}
use Rattle.sd_writing.specs.Tables.{AreTables, IsTableFrom}

-- ---- counts

abbrev pub in_space : ℕ → ℕ → Place
in_space space page = (space, page)

-- ---- the places of a space

abbrev places : List Listed → List Place
places tables = map place_of_entry (entries_listed tables)

abbrev table_places : Listed → List Place
table_places t = map place_of_entry (table_entries t)

pub places_cons : (t : Listed) (tables : List Listed) → places (t ∷ tables) ≡ table_places t ++ places tables
places_cons t tables = map-append place_of_entry (table_entries t) (entries_listed tables)

run_places : (space : ℕ) (kind : _) (pages : List ℕ) → map place_of_entry (map (λ page. record { place = (space, page); kind = kind }) pages) ≡ map (in_space space) pages
run_places space kind [] = refl
run_places space kind (page ∷ pages) = ap (λ (l : List Place). (space, page) ∷ l) (run_places space kind pages)

pub runs_places : (space : ℕ) (runs : List Run) → map place_of_entry (flat_map (run_entries space) runs) ≡ map (in_space space) (flat_map run_pages runs)
runs_places space [] = refl
runs_places space (run ∷ runs) =
    map-append place_of_entry (run_entries space run) (flat_map (run_entries space) runs)
    ∙ ap (λ (l : List Place). l ++ map place_of_entry (flat_map (run_entries space) runs)) (run_places space run.kind (run_pages run))
    ∙ ap (λ (l : List Place). map (in_space space) (run_pages run) ++ l) (runs_places space runs)
    ∙ sym (map-append (in_space space) (run_pages run) (flat_map run_pages runs))

same_pages : (space : ℕ) (xs ys : List ℕ) → map (in_space space) xs ≡ map (in_space space) ys → xs ≡ ys
same_pages space [] [] e = refl
same_pages space [] (y ∷ ys) e = absurd (let f : 0 ≡ suc (length (map (in_space space) ys)) = ap (λ (l : List Place). length l) e in omega arith)
same_pages space (x ∷ xs) [] e = absurd (let f : suc (length (map (in_space space) xs)) ≡ 0 = ap (λ (l : List Place). length l) e in omega arith)
same_pages space (x ∷ xs) (y ∷ ys) e =
    let heads : x ≡ y = ap (λ (l : List Place). first l) e in
    ap (λ n. n ∷ xs) heads ∙ ap (λ (l : List ℕ). y ∷ l) (same_pages space xs ys (ap (λ (l : List Place). rest l) e))
  where
    first : List Place → ℕ
    first [] = 0
    first (p ∷ ps) = p.1

    rest : List Place → List Place
    rest [] = []
    rest (p ∷ ps) = ps

-- every place in a space, or above it
abbrev AreIn : ℕ → List Place → Type 0
AreIn space = AllByRecursion (λ (p : Place). p.0 ≡ space)

abbrev AreAbove : ℕ → List Place → Type 0
AreAbove space = AllByRecursion (λ (p : Place). space < p.0)

in_map : (space : ℕ) (pages : List ℕ) → AreIn space (map (in_space space) pages)
in_map space [] = tt
in_map space (page ∷ pages) = (refl, in_map space pages)

in_table : (t : Listed) → AreIn t.space (table_places t)
in_table t = subst (AreIn t.space) (sym (runs_places t.space t.runs)) (in_map t.space (flat_map run_pages t.runs))

above_map : (space number : ℕ) (pages : List ℕ) → number < space → AreAbove number (map (in_space space) pages)
above_map space number [] above = tt
above_map space number (page ∷ pages) above = (above, above_map space number pages above)

all_append : {X : Type 0} (P : X → Type 0) (xs ys : List X) → AllByRecursion P xs → AllByRecursion P ys → AllByRecursion P (xs ++ ys)
all_append P [] ys one two = two
all_append P (x ∷ xs) ys one two = (one.0, all_append P xs ys one.1 two)

above_table : (number : ℕ) (t : Listed) (tables : List Listed) → number < t.space → AreAbove number (places tables) → AreAbove number (places (t ∷ tables))
above_table number t tables above rest =
    subst (AreAbove number) (sym (places_cons t tables))
    (all_append (λ (p : Place). number < p.0) (table_places t) (places tables)
    (subst (AreAbove number) (sym (runs_places t.space t.runs)) (above_map t.space number (flat_map run_pages t.runs) above)) rest)

above_gathered : (number least : ℕ) (tables : List Listed) → AreTables 0 least tables → number < least → AreAbove number (places tables)
above_gathered number least [] are below = tt
above_gathered number least (t ∷ tables) are below =
    let l : least ≤ t.space = are.0.from in
    above_table number t tables (omega arith) (above_gathered number (t.space + 1) tables are.1 (omega arith))

above_spaces : (h : Header) (number before : ℕ) (spaces : List Listed) → AreSpaces h before spaces → number ≤ before → AreAbove number (places spaces)
above_spaces h number before [] are below = tt
above_spaces h number before (s ∷ spaces) are below =
    let l : before < s.space = are.0.above in
    above_table number s spaces (omega arith) (above_spaces h number s.space spaces are.1 (omega arith))

-- Two lists that have a space's places first and places above it after them: both parts agree.
split : (space : ℕ) (xs ys us vs : List Place) → AreIn space xs → AreIn space us → AreAbove space ys → AreAbove space vs → xs ++ ys ≡ us ++ vs → (xs ≡ us) × (ys ≡ vs)
split space [] ys [] vs one two three four e = (refl, e)
split space [] [] (u ∷ us) vs one two three four e = absurd (let f : 0 ≡ suc (length (us ++ vs)) = ap (λ (l : List Place). length l) e in omega arith)
split space [] (y ∷ ys) (u ∷ us) vs one two three four e =
    absurd (let same : y.0 ≡ u.0 = ap (λ (l : List Place). first_space l) e in let a : space < y.0 = three.0 in let b : u.0 ≡ space = two.0 in omega arith)
  where
    first_space : List Place → ℕ
    first_space [] = 0
    first_space (p ∷ ps) = p.0
split space (x ∷ xs) ys [] [] one two three four e = absurd (let f : suc (length (xs ++ ys)) ≡ 0 = ap (λ (l : List Place). length l) e in omega arith)
split space (x ∷ xs) ys [] (v ∷ vs) one two three four e =
    absurd (let same : x.0 ≡ v.0 = ap (λ (l : List Place). first_space l) e in let a : space < v.0 = four.0 in let b : x.0 ≡ space = one.0 in omega arith)
  where
    first_space : List Place → ℕ
    first_space [] = 0
    first_space (p ∷ ps) = p.0
split space (x ∷ xs) ys (u ∷ us) vs one two three four e =
    let both = split space xs ys us vs one.1 two.1 three four (ap (λ (l : List Place). rest l) e) in
    let heads : Some x ≡ Some u = ap (λ (l : List Place). head l) e in
    let same : x ≡ u = cc in
    (ap (λ (p : Place). p ∷ xs) same ∙ ap (λ (l : List Place). u ∷ l) both.0, both.1)
  where
    rest : List Place → List Place
    rest [] = []
    rest (p ∷ ps) = ps

    head : List Place → Option Place
    head [] = None
    head (p ∷ ps) = Some p

-- ---- the table

-- which tables are joined from these: their spaces are those of an image, and their entries are those that were taken
record IsJoined (h : Header) (before : ℕ) (taken tables : List Listed) : Type 0 where
  pub entries : entries_listed tables ≡ entries_listed taken
  pub spaces : AreSpaces h before tables

pub covers : (kind : Kind) (areas : List Area) (runs : List Run) → kind ≢ PreDump → Covers kind areas runs → flat_map run_pages runs ≡ flat_map area_pages areas
covers kind areas runs other is = grind arith

-- a space with other runs that have its pages
other_space : (old h : Header) (before : ℕ) (s : Listed) (runs : List Run) → old.kind ≢ PreDump → h.kind ≡ Merged → h.parent ≡ 0 → IsSpace old before s → AreRuns 0 None runs
    → flat_map run_pages runs ≡ flat_map run_pages s.runs → IsSpace h before (record { space = s.space; areas = s.areas; runs = runs })
other_space old h before s runs other kind parent is are same = grind arith

no_entries : (entries : List ImageEntry) → map place_of_entry entries ≡ [] → entries ≡ []
no_entries [] e = refl
no_entries (x ∷ entries) e = absurd (let f : suc (length (map place_of_entry entries)) ≡ 0 = ap (λ (l : List Place). length l) e in omega arith)

no_pages : (space : ℕ) (runs : List Run) → map place_of_entry (flat_map (run_entries space) runs) ≡ [] → [] ≡ flat_map run_pages runs
no_pages space runs e = same_pages space [] (flat_map run_pages runs) (sym (sym (runs_places space runs) ∙ e))

none_before : (xs ys : List Place) → xs ++ ys ≡ [] → (xs ≡ []) × (ys ≡ [])
none_before [] ys e = (refl, e)
none_before (x ∷ xs) ys e = absurd (let f : suc (length (xs ++ ys)) ≡ 0 = ap (λ (l : List Place). length l) e in omega arith)

first_page : (first count : ℕ) → 0 < count → (ps : List ℕ) × (pages_from first count ≡ first ∷ ps)
unfolding pages_from
first_page first zero some = absurd (omega arith)
first_page first (suc count) some = (pages_from (suc first) count, refl)

-- a space with pages has a first place
some_place : (least : ℕ) (t : Listed) (xs : List Place) → IsTableFrom 0 least t → (page : ℕ) × (ps : List Place) × (table_places t ++ xs ≡ (t.space, page) ∷ ps)
some_place least t xs is = by t.runs is.some is.runs (runs_places t.space t.runs)
  where
    counts : (run : Run) → IsTrue (is_run_after 0 None run) → 0 < run.count
    counts run after = grind (arith, nat_tests)

    by : (runs : List Run) → runs ≢ [] → AreRuns 0 None runs → table_places t ≡ map (in_space t.space) (flat_map run_pages runs)
        → (page : ℕ) × (ps : List Place) × (table_places t ++ xs ≡ (t.space, page) ∷ ps)
    by [] some are e = absurd (some refl)
    by (run ∷ runs) some are e =
        let p = first_page run.first run.count (counts run are.0) in (
          run.first,
          map (in_space t.space) (p.0 ++ flat_map run_pages runs) ++ xs,
          ap (λ (l : List Place). l ++ xs) (e ∙ ap (λ (l : List ℕ). map (in_space t.space) (l ++ flat_map run_pages runs)) p.1),
        )

joined : (old h : Header) (before least : ℕ) (source taken : List Listed) → old.kind ≢ PreDump → h.kind ≡ Merged → h.parent ≡ 0 → AreSpaces old before source → AreTables 0 least taken
    → places taken ≡ places source → IsJoined h before taken (tables_of source taken)
joined old h before least [] taken other kind parent are gathered same = record {
  entries = sym (no_entries (entries_listed taken) same);
  spaces = tt;
}
joined old h before least (s ∷ source) [] other kind parent are gathered same =
    let none = none_before (table_places s) (places source) (sym (places_cons s source) ∙ sym same) in
    let rest = joined old h s.space least source [] other kind parent are.1 tt (sym none.1) in
    record {
      entries = rest.entries;
      spaces = (other_space old h before s [] other kind parent are.0 tt (no_pages s.space s.runs none.0), rest.spaces);
    }
joined old h before least (s ∷ source) (t ∷ taken) other kind parent are gathered same =
    by (nat_eq t.space s.space) refl (joined old h s.space (t.space + 1) source taken other kind parent are.1 gathered.1)
    (joined old h s.space least source (t ∷ taken) other kind parent are.1 gathered)
  where
    all : table_places t ++ places taken ≡ table_places s ++ places source
    all = sym (places_cons t taken) ∙ same ∙ places_cons s source

    apart : (a b : ℕ) → nat_eq a b ≡ false → a ≡ b → ⊥
    apart a b e is = grind (arith, nat_tests)

    none_here : (xs : List Place) → AreIn s.space xs → nat_eq t.space s.space ≡ false → table_places t ++ places taken ≡ xs ++ places source → xs ≡ []
    none_here [] are_in off e = refl
    none_here (x ∷ xs) are_in off e =
        let p = some_place least t (places taken) gathered.0 in
        absurd (apart t.space s.space off (ap (λ (l : List Place). first_space l) (sym p.2 ∙ e) ∙ are_in.0))
      where
        first_space : List Place → ℕ
        first_space [] = 0
        first_space (p ∷ ps) = p.0

    by : (b : Bool) → nat_eq t.space s.space ≡ b → (places taken ≡ places source → IsJoined h s.space taken (tables_of source taken))
        → (places (t ∷ taken) ≡ places source → IsJoined h s.space (t ∷ taken) (tables_of source (t ∷ taken)))
        → IsJoined h before (t ∷ taken) ((record { space = s.space; areas = s.areas; runs = if b then t.runs else [] }) ∷ tables_of source (if b then taken else t ∷ taken))
    by true e one other_one =
        let here : t.space ≡ s.space = equal t.space s.space e in
        let both = split s.space (table_places t) (places taken) (table_places s) (places source)
        (subst (λ n. AreIn n (table_places t)) here (in_table t)) (in_table s)
        (above_gathered s.space (t.space + 1) taken gathered.1 (omega arith)) (above_spaces old s.space s.space source are.1 (omega arith)) all in
        let rest = one both.1 in
        let pages : flat_map run_pages t.runs ≡ flat_map run_pages s.runs = same_pages s.space (flat_map run_pages t.runs) (flat_map run_pages s.runs)
        (sym (runs_places s.space t.runs) ∙ ap (λ n. map place_of_entry (flat_map (run_entries n) t.runs)) (sym here) ∙ both.0 ∙ runs_places s.space s.runs) in
        record {
          entries = ap (λ n. flat_map (run_entries n) t.runs ++ entries_listed (tables_of source taken)) (sym here)
              ∙ ap (λ (l : List ImageEntry). table_entries t ++ l) rest.entries;
          spaces = (other_space old h before s t.runs other kind parent are.0 gathered.0.runs pages, rest.spaces);
        }
    by false e one other_one =
        let none : table_places s ≡ [] = none_here (table_places s) (in_table s) e all in
        let rest = other_one (places_cons t taken ∙ all ∙ ap (λ (l : List Place). l ++ places source) none) in
        record {
          entries = rest.entries;
          spaces = (other_space old h before s [] other kind parent are.0 tt (no_pages s.space s.runs none), rest.spaces);
        }

-- ---- its areas and counts

same_areas : (source taken : List Listed) → map own_areas (tables_of source taken) ≡ map own_areas source
same_areas [] taken = refl
same_areas (s ∷ source) taken = ap (λ (l : List (ℕ × List Area)). (s.space, s.areas) ∷ l) (same_areas source (spaces_after s.space taken))

same_length : (source taken : List Listed) → length (tables_of source taken) ≡ length source
same_length [] taken = refl
same_length (s ∷ source) taken = ap (λ n. suc n) (same_length source (spaces_after s.space taken))

abbrev areas_count : Listed → ℕ
areas_count s = sum_by (λ (a : Area). a.count) s.areas

same_mapped : (source taken : List Listed) → mapped_count (tables_of source taken) ≡ mapped_count source
same_mapped [] taken = refl
same_mapped (s ∷ source) taken =
    sum_by-cons areas_count (record { space = s.space; areas = s.areas; runs = front_runs s.space taken }) (tables_of source (spaces_after s.space taken))
    ∙ ap (λ n. areas_count s + n) (same_mapped source (spaces_after s.space taken))
    ∙ sym (sum_by-cons areas_count s source)

pub table_of : (source taken tables : List Listed) → ((l : List Listed) → Lists (entries_listed l) l) → AreTables 0 0 taken → tables ≡ tables_of source taken
    → IsTableOf source (entries_listed taken) tables
table_of source taken tables law gathered is = λ old header table other same kind parent pages.
    subst (λ (l : List Listed). RepeatsTable source (entries_listed taken) header l) (sym is)
    (let all = joined old header 0 0 source taken other kind parent table.each gathered same in
    let lists : Lists (entries_listed taken) (tables_of source taken) = subst (λ (e : List ImageEntry). Lists e (tables_of source taken)) all.entries (law (tables_of source taken)) in
    record {
      table = record {
        lists = lists;
        is = record {
          few = subst (λ n. n ≤ 16) (sym (same_length source taken)) table.few;
          each = all.spaces;
          «data» = sym (pages_counted (tables_of source taken)) ∙ ap (λ (l : List Place). length l) (lists Data) ∙ sym pages;
          mapped = subst (λ n. n ≤ 65536) (sym (same_mapped source taken)) table.mapped;
        };
      };
      areas = same_areas source taken;
    })

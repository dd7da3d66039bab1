-- How many entries stand before a place.
use Rattle.std.proofs.Common.{◌≡◌, ℕ, ◌+◌, ◌*◌, ◌-◌, ◌<◌, ◌≤◌, ◌^◌, Bool, true, false, if◌then◌else◌, List, [], ◌∷◌, length, filter, Option, Some, None, IsTrue, refl, sym, ◌∙◌, ap, subst, inl, inr, arith}
use Rattle.std.specs.List.{flat_map}
use Rattle.std.proofs.lemmas.List.{length-append, length-map}
use Rattle.sd_areas.specs.Pages.{pages_from}
use Rattle.sd_image.specs.declared.run.Run.{Run}
use Rattle.sd_image.specs.Runs.{end_of}
use Rattle.sd_image.specs.Table.{AreRuns, Listed, is_run_after}
use Rattle.sd_writing.specs.Entries.{Place, ImageEntry, data_pages, entries_listed, run_entries}
use Rattle.sd_writing.specs.Tables.{AreTables, EndBefore, EndsBefore, IsTableFrom}
use Rattle.sd_writing.proofs.EntryLemmas.{length-pages_from}

run_long : (space : ℕ) (run : Run) → length (run_entries space run) ≡ run.count
run_long space run = length-map (pages_from run.first run.count) _ ∙ length-pages_from run.first run.count

-- the page after the run before, if there is one
abbrev end_before : Option Run → ℕ
end_before None = 0
end_before (Some run) = run.first + run.count

begins : (parent : ℕ) (before : Option Run) (run : Run) → IsTrue (is_run_after parent before run) → end_before before ≤ run.first
begins parent before run after = grind arith

pub run_within : (parent : ℕ) (before : Option Run) (run : Run) → IsTrue (is_run_after parent before run) → run.first + run.count ≤ 2 ^ 35
run_within parent before run after = grind arith

-- runs have at most as many pages as there are before their end
runs_fit : (parent space : ℕ) (before : Option Run) (run : Run) (runs : List Run) → AreRuns parent before (run ∷ runs)
    → (length (flat_map (run_entries space) (run ∷ runs)) + end_before before ≤ end_of (run ∷ runs)) × (end_of (run ∷ runs) ≤ 2 ^ 35)
runs_fit parent space before run [] are =
    let f : length (flat_map (run_entries space) (run ∷ [])) ≡ run.count + 0 = length-append (run_entries space run) [] ∙ ap (λ n. n + 0) (run_long space run) in
    let g : end_before before ≤ run.first = begins parent before run are.0 in
    (omega arith, run_within parent before run are.0)
runs_fit parent space before run (next ∷ runs) are =
    let rest = runs_fit parent space (Some run) next runs are.1 in
    let more : length (flat_map (run_entries space) (next ∷ runs)) + (run.first + run.count) ≤ end_of (next ∷ runs) = rest.0 in
    let f : length (flat_map (run_entries space) (run ∷ next ∷ runs)) ≡ run.count + length (flat_map (run_entries space) (next ∷ runs)) =
    length-append (run_entries space run) (flat_map (run_entries space) (next ∷ runs)) ∙ ap (λ n. n + length (flat_map (run_entries space) (next ∷ runs))) (run_long space run) in
    let g : end_before before ≤ run.first = begins parent before run are.0 in
    (omega arith, rest.1)

abbrev table_entries : Listed → List ImageEntry
table_entries t = flat_map (run_entries t.space) t.runs

table_fits : (parent before : ℕ) (t : Listed) → IsTableFrom parent (before + 1) t → (length (table_entries t) ≤ end_of t.runs) × (end_of t.runs ≤ 2 ^ 35)
table_fits parent before t is = by t.runs refl
  where
    by : (runs : List Run) → t.runs ≡ runs → (length (table_entries t) ≤ end_of t.runs) × (end_of t.runs ≤ 2 ^ 35)
    by [] e = absurd (is.some e)
    by (run ∷ runs) e =
        let fits = runs_fit parent t.space None run runs (subst (AreRuns parent None) e is.runs) in
        let f : length (flat_map (run_entries t.space) (run ∷ runs)) + 0 ≤ end_of (run ∷ runs) = fits.0 in
        subst (λ (l : List Run). (length (flat_map (run_entries t.space) l) ≤ end_of l) × (end_of l ≤ 2 ^ 35)) (sym e) (omega arith, fits.1)

-- all entries before a place are fewer than the places before it
entries_fit : (parent before : ℕ) (tables : List Listed) (at : Place) → AreTables parent (before + 1) tables → EndBefore at tables → before < at.0
    → length (entries_listed tables) ≤ 2 ^ 35 * (at.0 - before - 1) + at.1
entries_fit parent before [] at are ends below = omega arith
entries_fit parent before (t ∷ tables) at are ends below = by ends.0 (λ lower. entries_fit parent t.space tables at are.1 ends.1 lower)
  where
    both : length (entries_listed (t ∷ tables)) ≡ length (table_entries t) + length (entries_listed tables)
    both = length-append (table_entries t) (entries_listed tables)

    fits : (length (table_entries t) ≤ end_of t.runs) × (end_of t.runs ≤ 2 ^ 35)
    fits = table_fits parent before t are.0

    none_stands_after : t.space ≡ at.0 → (rest : List Listed) → AreTables parent (t.space + 1) rest → EndBefore at rest → length (entries_listed rest) ≡ 0
    none_stands_after here [] more less = refl
    none_stands_after here (s ∷ rest) more less = absurd (apart less.0)
      where
        apart : EndsBefore at s → ⊥
        apart (inl lower) = let f : t.space + 1 ≤ s.space = more.0.from in absurd (omega arith)
        apart (inr same) = let f : t.space + 1 ≤ s.space = more.0.from in let g : s.space ≡ at.0 = same.0 in absurd (omega arith)

    by : EndsBefore at t → (t.space < at.0 → length (entries_listed tables) ≤ 2 ^ 35 * (at.0 - t.space - 1) + at.1)
        → length (entries_listed (t ∷ tables)) ≤ 2 ^ 35 * (at.0 - before - 1) + at.1
    by (inl lower) others =
        let rest : length (entries_listed tables) ≤ 2 ^ 35 * (at.0 - t.space - 1) + at.1 = others lower in
        let one : length (table_entries t) ≤ end_of t.runs = fits.0 in
        let two : end_of t.runs ≤ 2 ^ 35 = fits.1 in
        let above : before + 1 ≤ t.space = are.0.from in
        rw (both) (omega arith)
    by (inr same) others =
        let rest : length (entries_listed tables) ≡ 0 = none_stands_after same.0 tables are.1 ends.1 in
        let one : length (table_entries t) ≤ end_of t.runs = fits.0 in
        let two : end_of t.runs ≤ at.1 = same.1 in
        rw (both) (omega arith)

filter_short : {X : Type 0} (p : X → Bool) (xs : List X) → length (filter p xs) ≤ length xs
filter_short p [] = omega arith
filter_short {X} p (x ∷ xs) = by (filter_short p xs) (p x)
  where
    by : length (filter p xs) ≤ length xs → (b : Bool) → length (if b then x ∷ filter p xs else filter p xs) ≤ length (x ∷ xs)
    by tail true = omega (arith, tail)
    by tail false = omega (arith, tail)

-- an image has room after its data pages for one more
pub has_room : (parent : ℕ) (tables : List Listed) (at : Place) → AreTables parent 1 tables → EndBefore at tables → 1 ≤ at.0 → at.0 ≤ 16 → at.1 < 2 ^ 35
    → data_pages (entries_listed tables) < 2 ^ 39
has_room parent tables at are ends least within page =
    let fits : length (entries_listed tables) ≤ 2 ^ 35 * (at.0 - 0 - 1) + at.1 = entries_fit parent 0 tables at are ends least in
    grind (arith, fits, filter_short, length-map)

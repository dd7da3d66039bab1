-- Entries with one more, and those of a table.
use Rattle.std.proofs.Common.{◌≡◌, ℕ, zero, suc, ◌<◌, ◌≤◌, Bool, cond, ◌==◌, List, [], ◌∷◌, ◌++◌, length, map, Some, refl, sym, ◌∙◌, ap, arith}
use Rattle.std.specs.Prelude.{filter, slice_get}
use Rattle.std.specs.List.{flat_map}
use Rattle.std.proofs.lemmas.List.{map-append}
use Rattle.std.proofs.lemmas.List.Elements.{filter-append}
use Rattle.sd_areas.specs.Pages.{pages_from}
use Rattle.sd_image.specs.declared.run.Run.{Run}
use Rattle.sd_image.specs.declared.run.RunKind.{RunKind}
use Rattle.sd_image.specs.Shows.{pages_of}
use Rattle.sd_image.specs.Table.{Listed, run_pages, table_text}
use Rattle.sd_image.specs.Words.{number_bytes, run_kind_number}
use Rattle.sd_gate.specs.declared.slot_state.SlotState.{SlotState}
use Rattle.sd_gate.specs.Sequences.{format_calls}
use Rattle.sd_writing.specs.Entries.{ImageEntry, Lists, Place, entries_listed, has_kind, pages_by, place_of_entry, run_entries}

pub pages_append : (kind : RunKind) (xs ys : List ImageEntry) → pages_by kind (xs ++ ys) ≡ pages_by kind xs ++ pages_by kind ys
pages_append kind xs ys = grind (arith, filter-append, map-append)

pub slice_get_back : {X : Type 0} (xs : List X) (y : X) → slice_get (xs ++ y ∷ []) (length xs) ≡ Some y
slice_get_back [] y = refl
slice_get_back (x ∷ xs) y = slice_get_back xs y

pub length-pages_from : (first count : ℕ) → length (pages_from first count) ≡ count
unfolding pages_from
length-pages_from first zero = refl
length-pages_from first (suc count) = ap (λ n. suc n) (length-pages_from (suc first) count)

-- ---- the entries of a table

none_by : (b : Bool) → ◌≡◌ {A = List Place} (cond b [] []) []
none_by b = grind arith

one_by : (b : Bool) (entry : ImageEntry) (pages : List Place) (entries : List ImageEntry) → cond b pages [] ≡ map place_of_entry entries
    → cond b (entry.place ∷ pages) [] ≡ map place_of_entry (cond b (entry ∷ entries) entries)
one_by b entry pages entries e = grind arith

-- the pages of a run in one way are those of its entries
run_by : (kind : RunKind) (space : ℕ) (run : Run) (pages : List ℕ)
    → cond (run_kind_number run.kind == run_kind_number kind) (map (λ page. (space, page)) pages) []
    ≡ pages_by kind (map (λ page. record { place = (space, page); kind = run.kind }) pages)
run_by kind space run [] = none_by (run_kind_number run.kind == run_kind_number kind)
run_by kind space run (page ∷ pages) =
    one_by (run_kind_number run.kind == run_kind_number kind) (record { place = (space, page); kind = run.kind }) (map (λ p. (space, p)) pages)
    (filter (has_kind kind) (map (λ p. record { place = (space, p); kind = run.kind }) pages)) (run_by kind space run pages)

runs_by : (kind : RunKind) (space : ℕ) (runs : List Run)
    → flat_map (λ (r : Run). cond (run_kind_number r.kind == run_kind_number kind) (map (λ page. (space, page)) (run_pages r)) []) runs
    ≡ pages_by kind (flat_map (run_entries space) runs)
runs_by kind space [] = refl
runs_by kind space (run ∷ runs) =
    ap (λ (l : List Place). l ++ flat_map (λ (r : Run). cond (run_kind_number r.kind == run_kind_number kind) (map (λ page. (space, page)) (run_pages r)) []) runs)
    (run_by kind space run (run_pages run))
    ∙ ap (λ (l : List Place). pages_by kind (run_entries space run) ++ l) (runs_by kind space runs)
    ∙ sym (pages_append kind (run_entries space run) (flat_map (run_entries space) runs))

pub lists : (spaces : List Listed) → Lists (entries_listed spaces) spaces
lists [] = λ kind. refl
lists (s ∷ spaces) = λ kind.
    ap (λ (l : List Place). l ++ pages_of kind spaces) (runs_by kind s.space s.runs)
    ∙ ap (λ (l : List Place). pages_by kind (flat_map (run_entries s.space) s.runs) ++ l) (lists spaces kind)
    ∙ sym (pages_append kind (flat_map (run_entries s.space) s.runs) (entries_listed spaces))

-- ---- calls

-- a table's text has bytes
pub table_is_long : (spaces : List Listed) → 0 < length (table_text spaces)
unfolding table_text number_bytes
table_is_long spaces = omega arith

-- a format has three calls at most
pub few_calls : (state : SlotState) → length (format_calls state) ≤ 3
few_calls state = grind arith

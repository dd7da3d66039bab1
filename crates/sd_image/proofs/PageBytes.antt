-- Where the bytes of a data page stand in its image's file.
use Rattle.std.proofs.Common.{◌≡◌, ◌<◌, ◌≤◌, ◌+◌, ◌*◌, ◌-◌, ℕ, zero, suc, Bool, true, false, cond, List, [], ◌∷◌, ◌++◌, map, take, drop, length, get_or, Some, refl, sym, ◌∙◌, ap, arith, append_assoc}
use Rattle.std.specs.Prelude.{slice_range}
use Rattle.std.specs.List.{AllByRecursion, concat, flat_map, slice_get, sum_by}
use Rattle.std.proofs.lemmas.List.{drop_at, drop-drop, length-append, length-map, take_at}
use Rattle.std.proofs.lemmas.List.Sums.{sum_by-cons}
use Rattle.std.proofs.lemmas.Option.{none-some, same_Some, slice_get-get_or, slice_get_within}
use Rattle.sd_image.proofs.FileLaws.{times_suc}
use Rattle.sd_areas.specs.Pages.{pages_from}
use Rattle.sd_image.specs.declared.run.Run.{Run}
use Rattle.sd_image.specs.declared.run.RunKind.TheVariants.{Data}
use Rattle.sd_image.specs.Header.{header_text}
use Rattle.sd_image.specs.Image.{Image, IsImage, image_text}
use Rattle.sd_image.specs.Laws.{PageInFile}
use Rattle.sd_image.specs.Shows.{pages_of}
use Rattle.sd_image.specs.Table.{Listed, data_count, is_data, run_pages, table_text}
use Rattle.sd_image.proofs.HeaderRules.{header_length}

-- ---- as many pages with data as are counted

abbrev in_space : ℕ → ℕ → ℕ × ℕ
in_space space page = (space, page)

abbrev data_places : ℕ → Run → List (ℕ × ℕ)
data_places space r = cond (is_data r) (map (in_space space) (run_pages r)) []

long : (first count : ℕ) → length (pages_from first count) ≡ count
unfolding pages_from
long first zero = refl
long first (suc count) = ap suc (long (suc first) count)

counted_runs : (space : ℕ) (runs : List Run) → length (flat_map (data_places space) runs) ≡ sum_by (λ (r : Run). cond (is_data r) r.count 0) runs
counted_runs space [] = refl
counted_runs space (r ∷ runs) =
    length-append (data_places space r) (flat_map (data_places space) runs)
    ∙ omega (arith, counted_runs space runs, one (is_data r)) ∙ sym (sum_by-cons (λ (r : Run). cond (is_data r) r.count 0) r runs)
  where
    one : (b : Bool) → length (cond b (map (in_space space) (run_pages r)) []) ≡ cond b r.count 0
    one true = length-map (run_pages r) (in_space space) ∙ long r.first r.count
    one false = refl

pub counted_spaces : (spaces : List Listed) → length (pages_of Data spaces) ≡ data_count spaces
counted_spaces [] = refl
counted_spaces (s ∷ spaces) =
    length-append (flat_map (data_places s.space) s.runs) (pages_of Data spaces)
    ∙ omega (arith, counted_runs s.space s.runs, counted_spaces spaces)
    ∙ sym (sum_by-cons (λ (s : Listed). sum_by (λ (r : Run). cond (is_data r) r.count 0) s.runs) s spaces)

-- ---- the bytes of one

page_cut : (pages : List (List ℕ)) (rest : List ℕ) (place : ℕ) (page : List ℕ) → AllByRecursion (λ page. length page ≡ 4096) pages → slice_get pages place ≡ Some page
    → take 4096 (drop (4096 * place) (concat pages ++ rest)) ≡ page
page_cut [] rest place page whole there = absurd (none-some page there)
page_cut (first ∷ pages) rest zero page whole there =
    ap (take 4096) (append_assoc first (concat pages) rest) ∙ take_at first (concat pages ++ rest) 4096 whole.0 ∙ same_Some first page there
page_cut (first ∷ pages) rest (suc place) page whole there =
    ap (λ n. take 4096 (drop n ((first ++ concat pages) ++ rest))) (times_suc place)
    ∙ ap (take 4096) (sym (drop-drop (4096 * place) 4096 ((first ++ concat pages) ++ rest)))
    ∙ ap (λ xs. take 4096 (drop (4096 * place) xs)) (ap (drop 4096) (append_assoc first (concat pages) rest) ∙ drop_at first (concat pages ++ rest) 4096 whole.0)
    ∙ page_cut pages rest place page whole.1 there

after_header : (file : List ℕ) (i : Image) → IsImage file i → drop 4096 file ≡ concat i.pages ++ table_text i.spaces
after_header file i image =
    let front : List ℕ = 165 ∷ header_text i.header in
    let text : image_text i ≡ header_text i.header ++ (concat i.pages ++ table_text i.spaces) = append_assoc (header_text i.header) (concat i.pages) (table_text i.spaces) in
    ap (drop 4096) (image.spelled ∙ ap (λ xs. 165 ∷ xs) text)
    ∙ drop_at front (concat i.pages ++ table_text i.spaces) 4096 (ap suc (header_length i.header image.header.words))

pub page_in_file_lem : PageInFile
page_in_file_lem file i page place image there =
    let few = slice_get_within (pages_of Data i.spaces) place page there in
    let many = counted_spaces i.spaces in
    let within : place < length i.pages = omega (arith, few, many, image.table.«data», image.stored) in
    let room : 4096 + 4096 * place + 4096 ≤ length file = omega (arith, within, image.stored, image.header.fills) in
    let at = 4096 + 4096 * place in
    let bytes = get_or i.pages place [] in
    let there : slice_get i.pages place ≡ Some bytes = slice_get-get_or i.pages place [] within in
    let one : at + 4096 - at ≡ 4096 = omega arith in
    let cut : slice_range file at (at + 4096) ≡ bytes =
    ap (λ n. take n (drop at file)) one
    ∙ ap (take 4096) (sym (drop-drop (4096 * place) 4096 file) ∙ ap (drop (4096 * place)) (after_header file i image))
    ∙ page_cut i.pages (table_text i.spaces) place bytes image.whole there in
    (room, there ∙ ap Some (sym cut))

-- Runs that grow by a page at their end.
use Rattle.std.proofs.Common.{◌≡◌, ℕ, zero, suc, ◌<◌, ◌≤◌, ◌+◌, ◌^◌, Bool, true, false, nat_eq, IsTrue, List, [], ◌∷◌, ◌++◌, Option, Some, None, map, filter, refl, ◌∙◌, ap, arith, append_assoc, append-nil, cond}
use Rattle.std.proofs.lemmas.Bool.{eqb-true, and_parts}
use Rattle.std.proofs.lemmas.List.{map-append}
use Rattle.std.proofs.lemmas.List.Elements.{filter-append}
use Rattle.std.proofs.lemmas.Bool.Decides.{nat_tests}
use Rattle.std.specs.List.{flat_map}
use Rattle.std.proofs.lemmas.Grind.{flat_map-append}
use Rattle.sd_areas.specs.Pages.{pages_from}
use Rattle.sd_image.specs.declared.run.Run.{Run}
use Rattle.sd_image.specs.declared.run.RunKind.{RunKind}
use Rattle.sd_image.specs.Table.{AreRuns, is_run_after, run_pages}
use Rattle.sd_image.specs.Words.{run_kind_number}
use Rattle.sd_image.specs.Runs.{AreRunsOf, IsSourced, PageWay, RunsHavePages, end_of, has_way, is_continued, page_of_way, run_pages_by, run_ways}
use Rattle.sd_image.proofs.PagePlaces.{kind_number_once}

pub end_of-snoc : (runs : List Run) (run : Run) → end_of (runs ++ run ∷ []) ≡ run.first + run.count
end_of-snoc (r ∷ s ∷ runs) run = end_of-snoc (s ∷ runs) run
end_of-snoc _ run = refl

-- the run before the next
abbrev last_of : Option Run → List Run → Option Run
last_of before [] = before
last_of before (run ∷ runs) = last_of (Some run) runs

last_of-snoc : (before : Option Run) (runs : List Run) (run : Run) → last_of before (runs ++ run ∷ []) ≡ Some run
last_of-snoc before [] run = refl
last_of-snoc before (r ∷ runs) run = last_of-snoc (Some r) runs run

-- runs and one more
AreRuns-snoc : (parent : ℕ) (before : Option Run) (runs : List Run) (run : Run) → AreRuns parent before runs → IsTrue (is_run_after parent (last_of before runs) run)
    → AreRuns parent before (runs ++ run ∷ [])
AreRuns-snoc parent before [] run are after = (after, tt)
AreRuns-snoc parent before (r ∷ runs) run are after = (are.0, AreRuns-snoc parent (Some r) runs run are.1 after)

-- and without the last
AreRuns-front : (parent : ℕ) (before : Option Run) (runs : List Run) (run : Run) → AreRuns parent before (runs ++ run ∷ [])
    → AreRuns parent before runs × IsTrue (is_run_after parent (last_of before runs) run)
AreRuns-front parent before [] run are = (tt, are.0)
AreRuns-front parent before (r ∷ runs) run are = let rest = AreRuns-front parent (Some r) runs run are.1 in ((are.0, rest.0), rest.1)

grown : (first count : ℕ) → pages_from first (suc count) ≡ pages_from first count ++ (first + count) ∷ []
unfolding pages_from
grown first zero = ap (λ n. n ∷ []) (omega arith)
grown first (suc count) = ap (λ xs. first ∷ xs) (grown (suc first) count ∙ ap (λ n. pages_from (suc first) count ++ n ∷ []) (omega arith))

pages_from-snoc : (first count : ℕ) → pages_from first (count + 1) ≡ pages_from first count ++ (first + count) ∷ []
pages_from-snoc first count = ap (pages_from first) (omega arith) ∙ grown first count

-- a longer run begins where it began
longer_after : (parent : ℕ) (before : Option Run) (run : Run) → IsTrue (is_run_after parent before run) → run.first + run.count + 1 ≤ 2 ^ 35
    → IsTrue (is_run_after parent before (record run { count = run.count + 1 }))
longer_after parent before run after within = grind (arith, nat_tests)

-- a new run of one page
single_after : (parent : ℕ) (last : Run) (page : ℕ) (kind : RunKind) → last.first + last.count ≤ page → page < 2 ^ 35 → is_continued last page kind ≡ false
    → IsSourced parent kind → IsTrue (is_run_after parent (Some last) (record { first = page; count = 1; kind = kind }))
single_after parent last page kind behind within other sourced = grind arith

-- What a list of runs has more.

flat_map_last : {X : Type 0} (f : Run → List X) (front : List Run) (last : Run) → flat_map f (front ++ last ∷ []) ≡ flat_map f front ++ f last
flat_map_last f front last = flat_map-append f front (last ∷ []) ∙ ap (λ xs. flat_map f front ++ xs) (append-nil (f last))

flat_map_longer : {X : Type 0} (f : Run → List X) (front : List Run) (last longer : Run) (extra : List X) → f longer ≡ f last ++ extra
    → flat_map f (front ++ longer ∷ []) ≡ flat_map f (front ++ last ∷ []) ++ extra
flat_map_longer f front last longer extra more = grind (arith, flat_map_last, append_assoc)

ways_longer : (run : Run) (page : ℕ) (kind : RunKind) → run.first + run.count ≡ page → run.kind ≡ kind
    → run_ways (record run { count = run.count + 1 }) ≡ run_ways run ++ (page, kind) ∷ []
ways_longer run page kind ends same = grind (arith, pages_from-snoc, map-append)

ways_single : (page : ℕ) (kind : RunKind) → run_ways (record { first = page; count = 1; kind = kind }) ≡ (page, kind) ∷ []
unfolding pages_from
ways_single page kind = refl

-- a page that goes on is the one after the run
pub ends_at : (run : Run) (page : ℕ) (kind : RunKind) → is_continued run page kind ≡ true → run.first + run.count ≡ page
ends_at run page kind goes_on =
    eqb-true (run.first + run.count) page (and_parts (nat_eq (run_kind_number run.kind) (run_kind_number kind)) (nat_eq (run.first + run.count) page) goes_on).1

-- the last run with a page more
pub longer_runs : (parent : ℕ) (pages : List PageWay) (front : List Run) (last : Run) (page : ℕ) (kind : RunKind)
    → AreRunsOf parent pages (front ++ last ∷ []) → page < 2 ^ 35 → is_continued last page kind ≡ true
    → AreRunsOf parent (pages ++ (page, kind) ∷ []) (front ++ (record { first = last.first; count = last.count + 1; kind = last.kind }) ∷ [])
longer_runs parent pages front last page kind are within goes_on =
    let tests = and_parts (nat_eq (run_kind_number last.kind) (run_kind_number kind)) (nat_eq (last.first + last.count) page) goes_on in
    let ends : last.first + last.count ≡ page = ends_at last page kind goes_on in
    let same : last.kind ≡ kind = kind_number_once last.kind kind (eqb-true (run_kind_number last.kind) (run_kind_number kind) tests.0) in
    let split = AreRuns-front parent None front last are.maximal in
    record {
      maximal = AreRuns-snoc parent None front _ split.0 (longer_after parent (last_of None front) last split.1 (omega arith));
      list = flat_map_longer run_ways front last _ ((page, kind) ∷ []) (ways_longer last page kind ends same)
          ∙ ap (λ xs. xs ++ (page, kind) ∷ []) are.list;
    }

-- whether the page begins a run of its own
abbrev BeginsRun : ℕ → List Run → ℕ → RunKind → Type 0
BeginsRun parent runs page kind = IsTrue (is_run_after parent (last_of None runs) (record { first = page; count = 1; kind = kind }))

-- a run of one page after the others
pub more_runs : (parent : ℕ) (pages : List PageWay) (runs : List Run) (page : ℕ) (kind : RunKind)
    → AreRunsOf parent pages runs → BeginsRun parent runs page kind
    → AreRunsOf parent (pages ++ (page, kind) ∷ []) (runs ++ (record { first = page; count = 1; kind = kind }) ∷ [])
more_runs parent pages runs page kind are begins = record {
  maximal = AreRuns-snoc parent None runs _ are.maximal begins;
  list = flat_map_last run_ways runs _ ∙ ap (λ xs. flat_map run_ways runs ++ xs) (ways_single page kind) ∙ ap (λ xs. xs ++ (page, kind) ∷ []) are.list;
}

-- where it begins one
pub begins_first : (parent page : ℕ) (kind : RunKind) → page < 2 ^ 35 → IsSourced parent kind → BeginsRun parent [] page kind
begins_first parent page kind within sourced = grind arith

pub run_begins_after_last : (parent : ℕ) (front : List Run) (last : Run) (page : ℕ) (kind : RunKind) → last.first + last.count ≤ page → page < 2 ^ 35
    → is_continued last page kind ≡ false → IsSourced parent kind → BeginsRun parent (front ++ last ∷ []) page kind
run_begins_after_last parent front last page kind behind within other sourced = grind (arith, last_of-snoc, single_after)

-- ---- the pages of runs

own_pages : (kind : RunKind) (xs : List ℕ) → map page_of_way (map (λ page. (page, kind)) xs) ≡ xs
own_pages kind [] = refl
own_pages kind (x ∷ xs) = ap (λ ys. x ∷ ys) (own_pages kind xs)

all_pages : (runs : List Run) → map page_of_way (flat_map run_ways runs) ≡ flat_map run_pages runs
all_pages [] = refl
all_pages (run ∷ runs) =
    map-append page_of_way (run_ways run) (flat_map run_ways runs)
    ∙ ap (λ xs. xs ++ map page_of_way (flat_map run_ways runs)) (own_pages run.kind (run_pages run))
    ∙ ap (λ xs. run_pages run ++ xs) (all_pages runs)

ways_with : (kind own : RunKind) (b : Bool) (xs : List ℕ) → nat_eq (run_kind_number own) (run_kind_number kind) ≡ b
    → map page_of_way (filter (has_way kind) (map (λ page. (page, own)) xs)) ≡ cond b xs []
ways_with kind own true [] is = refl
ways_with kind own false [] is = refl
ways_with kind own true (x ∷ xs) is =
    ap (λ b. map page_of_way (cond b ((x, own) ∷ filter (has_way kind) (map (λ page. (page, own)) xs)) (filter (has_way kind) (map (λ page. (page, own)) xs)))) is
    ∙ ap (λ ys. x ∷ ys) (ways_with kind own true xs is)
ways_with kind own false (x ∷ xs) is =
    ap (λ b. map page_of_way (cond b ((x, own) ∷ filter (has_way kind) (map (λ page. (page, own)) xs)) (filter (has_way kind) (map (λ page. (page, own)) xs)))) is
    ∙ ways_with kind own false xs is

kind_pages : (kind : RunKind) (runs : List Run) → map page_of_way (filter (has_way kind) (flat_map run_ways runs)) ≡ flat_map (run_pages_by kind) runs
kind_pages kind [] = refl
kind_pages kind (run ∷ runs) =
    ap (map page_of_way) (filter-append (has_way kind) (run_ways run) (flat_map run_ways runs))
    ∙ map-append page_of_way (filter (has_way kind) (run_ways run)) (filter (has_way kind) (flat_map run_ways runs))
    ∙ ap (λ xs. xs ++ map page_of_way (filter (has_way kind) (flat_map run_ways runs))) (ways_with kind run.kind (nat_eq (run_kind_number run.kind) (run_kind_number kind)) (run_pages run) refl)
    ∙ ap (λ xs. run_pages_by kind run ++ xs) (kind_pages kind runs)

pub runs_have_pages_lem : RunsHavePages
runs_have_pages_lem parent pages runs are = grind (arith, all_pages, kind_pages)

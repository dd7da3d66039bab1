-- The maximal runs of pages that rise, each page with the way in which an image has it.
use Rattle.std.specs.Prelude.{◌≡◌, ℕ, ◌+◌, ◌<◌, Bool, ◌&&◌, ◌==◌, if◌then◌else◌, List, [], ◌∷◌, map, filter, None}
use Rattle.std.specs.List.{flat_map}
use Rattle.sd_image.specs.declared.run.Run.{Run}
use Rattle.sd_image.specs.declared.run.RunKind.{RunKind}
use Rattle.sd_image.specs.declared.run.RunKind.TheVariants.{Parent}
use Rattle.sd_image.specs.Table.{AreRuns, run_pages}
use Rattle.sd_image.specs.Words.{run_kind_number}

-- a page of a space, and in which way an image has it
abbrev pub PageWay : Type 0
PageWay = ℕ × RunKind

abbrev pub page_of_way : PageWay → ℕ
page_of_way p = p.0

abbrev pub has_way : RunKind → PageWay → Bool
has_way kind p = run_kind_number p.1 == run_kind_number kind

-- the pages of a run, each with its way
abbrev pub run_ways : Run → List PageWay
run_ways run = map (λ page. (page, run.kind)) (run_pages run)

-- these are the maximal runs of these pages, where the image's parent has this number
pub record AreRunsOf (parent : ℕ) (pages : List PageWay) (runs : List Run) : Type 0 where
  pub maximal : AreRuns parent None runs
  pub list : flat_map run_ways runs ≡ pages

-- a page in the parent needs one
abbrev pub IsSourced : ℕ → RunKind → Type 0
IsSourced parent kind = kind ≡ Parent → 0 < parent

-- after the last page of the last run
abbrev pub end_of : List Run → ℕ
end_of [] = 0
end_of (run ∷ []) = run.first + run.count
end_of (run ∷ next ∷ runs) = end_of (next ∷ runs)

-- a page that an image has in this way goes on where a run ends
abbrev pub is_continued : Run → ℕ → RunKind → Bool
is_continued run page kind = (run_kind_number run.kind == run_kind_number kind) && (run.first + run.count == page)

-- the pages that a run has in one way
abbrev pub run_pages_by : RunKind → Run → List ℕ
run_pages_by kind run = if run_kind_number run.kind == run_kind_number kind then run_pages run else []

-- The runs of some pages have exactly these pages, and in each way those that are to be had so.
pub record HavePages (pages : List PageWay) (runs : List Run) : Type 0 where
  pub all : flat_map run_pages runs ≡ map page_of_way pages
  pub by_kind : (kind : RunKind) → flat_map (run_pages_by kind) runs ≡ map page_of_way (filter (has_way kind) pages)

abbrev pub RunsHavePages : Type 0
RunsHavePages =
    (parent : ℕ) (pages : List PageWay) (runs : List Run) → AreRunsOf parent pages runs → HavePages pages runs

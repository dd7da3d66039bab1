-- The pages that a table lists, by how its image has them.
use Rattle.std.specs.Prelude.{ℕ, ◌==◌, if◌then◌else◌, List, sum_by}
use Rattle.sd_image.specs.Reading.{number_at}
use Rattle.sd_show.specs.Items.{runs_in, table_spaces}

-- the pages of a run, if it is of a kind
abbrev pub run_page_count : ℕ → List ℕ → ℕ
run_page_count kind run = if number_at 4 16 run == kind then number_at 8 8 run else 0

-- the pages of the runs of a kind
abbrev pub runs_pages : ℕ → List (List ℕ) → ℕ
runs_pages kind = sum_by (run_page_count kind)

-- and of those of spaces, each the bytes from it on
abbrev pub spaces_pages : ℕ → List (List ℕ) → ℕ
spaces_pages kind = sum_by (λ space. runs_pages kind (runs_in space))

-- and of those of a table
abbrev pub table_pages : ℕ → List ℕ → ℕ
table_pages kind table = spaces_pages kind (table_spaces table)

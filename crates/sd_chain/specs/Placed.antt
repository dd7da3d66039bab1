-- How many data pages stand before each run of an image.
use Rattle.std.specs.Prelude.{ℕ, ◌+◌, ◌-◌, ◌^◌, min, if◌then◌else◌, List, [], ◌∷◌}
use Rattle.sd_image.specs.declared.run.Run.{Run}
use Rattle.sd_image.specs.declared.table.SpaceTable.{SpaceTable}
use Rattle.sd_image.specs.Table.{is_data}

-- how many data pages stand before the end of a run, where this many stand before its start; a number of 64 bits at
-- most
abbrev pub after_run : ℕ → Run → ℕ
after_run before run = if is_data run then min (before + run.count) (2 ^ 64 - 1) else before

abbrev pub after_runs : ℕ → List Run → ℕ
after_runs before [] = before
after_runs before (run ∷ runs) = after_runs (after_run before run) runs

-- how many data pages stand before each run
abbrev pub places_of : ℕ → List Run → List ℕ
places_of before [] = []
places_of before (run ∷ runs) = before ∷ places_of (after_run before run) runs

-- how many data pages stand before each run of each space
abbrev pub all_places_of : ℕ → List SpaceTable → List (List ℕ)
all_places_of before [] = []
all_places_of before (space ∷ spaces) =
    places_of before space.runs.items ∷ all_places_of (after_runs before space.runs.items) spaces

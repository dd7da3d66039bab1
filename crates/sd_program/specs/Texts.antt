-- What stands on the standard error.
use Rattle.std.specs.Prelude.{ℕ, ◌/◌, List, [], ◌++◌, ◌∷◌, codes, ◌==◌, if◌then◌else◌}
use Rattle.std.specs.Duration.{as_nanos}
use Rattle.std.specs.Fmt.{decimal}
use Rattle.sd_program.specs.Pace.{percent_of, secs_left_of}
use Rattle.sd_program.specs.declared.pace.Done.{Done}

-- how many slots are free where so many are needed
abbrev pub few_slots_text : ℕ → ℕ → List ℕ
few_slots_text free wanted =
    codes "no-slot: free slots: " ++ decimal free ++ codes ", wanted: " ++ decimal wanted
    ++ codes "; a merge frees those of the images that it takes in"

-- how much of a hundred is done, and once something is, how many seconds are left
abbrev pub done_text : Done → List ℕ
done_text done =
    decimal (percent_of done.done done.of) ++ codes " %"
    ++ (if done.done == 0 then [] else
    codes ", " ++ decimal (secs_left_of done.done done.of (as_nanos done.took / 1_000_000)) ++ codes " s left")

-- a store has no image of the checkpoint that is asked for
abbrev pub not_there_text : ℕ → List ℕ
not_there_text number = codes "no checkpoint " ++ decimal number ++ 10 ∷ []

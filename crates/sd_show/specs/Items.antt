-- The items of a table, as they stand there, as far as its bytes go.
use Rattle.std.specs.Prelude.{ℕ, zero, suc, ◌+◌, ◌*◌, ◌/◌, ◌^◌, ◌==◌, nat_lt, if◌then◌else◌}
use Rattle.std.specs.Prelude.{List, [], ◌∷◌, length, take, drop, Option, None, Some}
use Rattle.std.specs.Simd.{first_chunks}
use Rattle.sd_image.specs.Reading.{number_at}

-- the first items of some bytes: so many, or as many as there are bytes for
abbrev pub items_in : ℕ → List ℕ → List (List ℕ)
items_in count bytes = take count (first_chunks 24 (length bytes / 24) bytes)

-- of the space that bytes begin with: its areas, its runs, and the bytes after it
unfoldable pub areas_in : List ℕ → List (List ℕ)
areas_in bytes = items_in (number_at 4 4 bytes) (drop 16 bytes)

unfoldable pub runs_in : List ℕ → List (List ℕ)
runs_in bytes = items_in (number_at 8 8 bytes) (drop (24 * number_at 4 4 bytes) (drop 16 bytes))

unfoldable pub place_after_space : List ℕ → List ℕ
place_after_space bytes = drop (24 * number_at 8 8 bytes) (drop (24 * number_at 4 4 bytes) (drop 16 bytes))

-- the bytes from each of so many spaces on, as far as they go
unfoldable pub spaces_in : ℕ → List ℕ → List (List ℕ)
spaces_in zero bytes = []
spaces_in (suc n) bytes = if nat_lt (length bytes) 16 then [] else bytes ∷ spaces_in n (place_after_space bytes)

-- and from each space of a table on
abbrev pub table_spaces : List ℕ → List (List ℕ)
table_spaces table = if nat_lt (length table) 8 then [] else spaces_in (number_at 4 0 table) (drop 8 table)

-- where the bytes after so many data pages begin in the file, if that is below 2^64
abbrev pub behind : Option ℕ → ℕ → Option ℕ
behind None count = None
behind (Some at) count = if nat_lt (at + 4096 * count) (2 ^ 64) then Some (at + 4096 * count) else None

-- where the next data page stands after a run, whose own pages would begin at a place
abbrev pub place_after_run : Option ℕ → List ℕ → Option ℕ
place_after_run at run = if number_at 4 16 run == 1 then behind at (number_at 8 8 run) else at

-- and after runs
abbrev pub place_after_runs : Option ℕ → List (List ℕ) → Option ℕ
place_after_runs at [] = at
place_after_runs at (run ∷ runs) = place_after_runs (place_after_run at run) runs

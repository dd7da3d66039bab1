-- The bytes of a page.
use Rattle.std.specs.Prelude.{ℕ, ◌+◌, List, ◌++◌, length, take, drop, replicate}

-- a page of zeros
unfoldable pub zeros : List ℕ
zeros = replicate 4096 0

-- the bytes of a page after some were stored at an offset
abbrev pub stored_at : List ℕ → ℕ → List ℕ → List ℕ
stored_at page offset bytes = take offset page ++ bytes ++ drop (offset + length bytes) page

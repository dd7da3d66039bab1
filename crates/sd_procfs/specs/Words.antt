-- What a read of `pagemap` gives.
use Rattle.std.specs.Prelude.{ℕ, List, map}
use Rattle.std.specs.List.{flat_map, range_with_len}
use Rattle.std.specs.Int.{bytes_low_first}
use Rattle.sd_pagetable.specs.Contents.{Contents, word_at}

-- the words of so many pages from one on, each in 8 bytes, little endian
unfoldable pub words_text : Contents → ℕ → ℕ → ℕ → List ℕ
words_text memory space first count =
    flat_map (bytes_low_first 0 8) (map (word_at memory space) (range_with_len first count))

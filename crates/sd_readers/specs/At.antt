-- What was printed of one checkpoint of a store, whether it is the newest or not.
use Rattle.std.specs.Prelude.{ℕ, List, Option, Result, OnOk}
use Rattle.std.specs.Io.KnownBytes.{Appends}
use Rattle.sd_areas.specs.PlainMemory.{PlainMemory}
use Rattle.sd_restore.specs.At.{ShowsAt}
use Rattle.sd_readers.specs.declared.at.ReaderAt.{ReaderAt}
use Rattle.sd_readers.specs.declared.at.ReaderAt.TheVariants as reader
use Rattle.sd_readers.specs.Texts.{memory_text}

-- the memory that the contents have at a checkpoint
pub record PrintsMemoryAt (contents : List (List ℕ)) (number : ℕ) (before after : Option (List ℕ)) : Type 0 where
  pub memory : PlainMemory
  pub shows : ShowsAt contents number memory
  pub printed : Appends before after (memory_text (number, memory))

-- contents have a memory at a checkpoint
abbrev pub HasMemoryAt : List (List ℕ) → ℕ → Type 0
HasMemoryAt contents number = (memory : PlainMemory) × ShowsAt contents number memory

-- what a program that reads one checkpoint prints of it
abbrev pub PrintsAt : ReaderAt → List (List ℕ) → ℕ → Option (List ℕ) → Option (List ℕ) → Type 0
PrintsAt reader.Restore = PrintsMemoryAt
PrintsAt reader.Verify = λ contents number before after. HasMemoryAt contents number

-- Where reading a store may take memory.
use Rattle.std.specs.Prelude.{ℕ, ◌<◌, List, length, take}
use Rattle.sd_disk.specs.Contents.{file_at}
use Rattle.sd_image.specs.declared.header.Header.{Header}
use Rattle.sd_restore.specs.Faulty.{AreReadable}
use Rattle.sd_restore.specs.Reading.{HasHeader}

-- a file takes memory for its table: it is open, and begins with a header
abbrev pub FileTakesMemory : List ℕ → Type 0
FileTakesMemory file = (header : Header) × HasHeader file header

-- reading these slots, rising, takes memory at this one: each before it is closed or an image
pub record TakesMemoryAt (contents : List (List ℕ)) (slot : ℕ) : Type 0 where
  pub within : slot < length contents
  pub here : FileTakesMemory (file_at contents slot)
  pub before : AreReadable (take slot contents)

-- some slot of a store does
abbrev pub StoreTakesMemory : List (List ℕ) → Type 0
StoreTakesMemory contents = (slot : ℕ) × TakesMemoryAt contents slot

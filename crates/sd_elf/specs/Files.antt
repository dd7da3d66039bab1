-- The core files of a memory.
use Rattle.std.specs.Prelude.{◌≡◌, Bool, ℕ, List, ◌++◌, Option, Some, None, filter, map}
use Rattle.std.specs.FinMap as finmap
use Rattle.sd_areas.specs.PlainMemory.{PlainMemory, Space}
use Rattle.sd_image.specs.Shows.{Shows}
use Rattle.sd_image.specs.Table.{Listed}
use Rattle.sd_restore.specs.Placed.{PlacedPage}
use Rattle.sd_elf.specs.Texts.{core_of, placed_core}

-- a space's number, and the bytes of its core file
abbrev pub CoreOfSpace : Type 0
CoreOfSpace = ℕ × List ℕ

-- the core files of the spaces of a checkpoint's memory that are asked for, rising, each with these notes of threads
abbrev pub cores_of : List ℕ → (ℕ → Bool) → ℕ × PlainMemory → List CoreOfSpace
cores_of threads wanted moment =
    map {B = CoreOfSpace} (λ (e : ℕ × Space). (e.0, core_of threads moment.0 e.0 e.1))
    (filter (λ (e : ℕ × Space). wanted e.0) (finmap.entries moment.1))

-- the same of pages that lie in the slots of a store
abbrev pub placed_cores :
    List ℕ → (ℕ → Bool) → List (List ℕ) → ℕ → List PlacedPage → List Listed → List CoreOfSpace
placed_cores threads wanted contents checkpoint pages spaces =
    map {B = CoreOfSpace} (λ (s : Listed). (s.space, placed_core threads contents checkpoint pages s))
    (filter (λ (s : Listed). wanted s.space) spaces)

-- these files were taken after others; nothing is claimed where those aren't known
abbrev pub TakesFiles : Option (List CoreOfSpace) → Option (List CoreOfSpace) → List CoreOfSpace → Type 0
TakesFiles None after files = Unit {0}
TakesFiles (Some before) after files = after ≡ Some (before ++ files)

-- the checkpoint that the contents show, and its memory, whose core files were taken
pub record TakesCores (contents : List (List ℕ)) (threads : List ℕ) (wanted : ℕ → Bool)
    (before after : Option (List CoreOfSpace)) (checkpoint : ℕ)
    : Type 0 where
  pub memory : PlainMemory
  pub shows : Shows contents (Some (checkpoint, memory))
  pub taken : TakesFiles before after (cores_of threads wanted (checkpoint, memory))

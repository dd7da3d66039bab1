-- The core files of the memory at a checkpoint, whether it is the newest or not.
use Rattle.std.specs.Prelude.{Bool, ℕ, List, Option}
use Rattle.sd_areas.specs.PlainMemory.{PlainMemory}
use Rattle.sd_restore.specs.At.{ShowsAt}
use Rattle.sd_elf.specs.Files.{CoreOfSpace, TakesFiles, cores_of}

-- the memory that the contents have at a checkpoint, whose core files were taken
pub record TakesCoresAt (contents : List (List ℕ)) (number : ℕ) (threads : List ℕ) (wanted : ℕ → Bool)
    (before after : Option (List CoreOfSpace))
    : Type 0 where
  pub memory : PlainMemory
  pub shows : ShowsAt contents number memory
  pub taken : TakesFiles before after (cores_of threads wanted (number, memory))

-- The memory of one moment, as data: no frames, no dirty bits, no images.
use Rattle.std.specs.Prelude.{ℕ, List}
use Rattle.std.specs.Ordering.{nat_cmp}
use Rattle.std.specs.FinMap as finmap
use Rattle.sd_areas.specs.declared.prot.Prot.{Prot}

-- a mapped page: its permissions, and its 4,096 bytes
pub record Page : Type 0 where
  pub prot : Prot
  pub bytes : List ℕ

-- an address space, by page number
abbrev pub Space : Type 0
Space = finmap.FinMap nat_cmp Page

-- the living spaces by their numbers; one without pages is the empty map
abbrev pub PlainMemory : Type 0
PlainMemory = finmap.FinMap nat_cmp Space

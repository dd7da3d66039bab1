-- The memory that a store shows is within the limits of a page table.
use Rattle.std.specs.Prelude.{ℕ, ◌<◌, ◌≤◌, List, map, length, sum_by, Contains, Some}
use Rattle.std.specs.FinMap as finmap
use Rattle.sd_areas.specs.Areas.{PageMap, areas_of}
use Rattle.sd_areas.specs.PlainMemory.{PlainMemory, Space}
use Rattle.sd_image.specs.Shows.{Shows}

-- the permissions of a space's pages
abbrev pub prots_in : Space → PageMap
prots_in space = finmap.from_entries (map (λ e. (e.0, e.1.prot)) (finmap.entries space))

-- a space with a number of 1 to 16 has at most 1,024 areas
pub record IsSpaceWithin (number : ℕ) (space : Space) : Type 0 where
  pub some : 0 < number
  pub few : number ≤ 16
  pub areas : length (areas_of (prots_in space)) ≤ 1024

-- so is each space of a memory, which has at most 65,536 pages in all
pub record IsWithinLimits (memory : PlainMemory) : Type 0 where
  pub spaces : (number : ℕ) (space : Space) → Contains (finmap.entries memory) (number, space)
      → IsSpaceWithin number space
  pub pages : sum_by (λ (entry : ℕ × Space). finmap.len entry.1) (finmap.entries memory) ≤ 65536

-- Contents show no other.
abbrev pub ShownIsWithinLimits : Type 0
ShownIsWithinLimits = (contents : List (List ℕ)) (checkpoint : ℕ) (memory : PlainMemory)
    → Shows contents (Some (checkpoint, memory)) → IsWithinLimits memory

-- The runs of two memories, space by space.
use Rattle.std.specs.Prelude.{◌↔◌, ℕ, ◌<◌, ◌==◌, List, All, Option, filter}
use Rattle.sd_areas.specs.declared.prot.Prot.{Prot}
use Rattle.sd_restore.specs.declared.placed_run.PlacedRun.{PlacedRun}
use Rattle.sd_restore.specs.Placed.{IsInSlots, IsWithin}
use Rattle.sd_diff.specs.declared.difference.Difference.{Difference}
use Rattle.sd_diff.specs.Difference.{HasChange, HasPage, IsChange, IsWritten}
use Rattle.sd_diff.specs.Held.{AreRising, Held, held_at}

-- runs have pages, and lie in so many slots
pub record ArePagesOf (count : ℕ) (runs : List PlacedRun) : Type 0 where
  pub within : All IsWithin runs
  pub slots : All (λ (r : PlacedRun). IsInSlots count r.there) runs

-- the runs of a space, of those of all
abbrev pub runs_in : ℕ → List PlacedRun → List PlacedRun
runs_in space = filter (λ (r : PlacedRun). r.space == space)

-- the runs of each space rise
abbrev pub RiseInSpaces : List PlacedRun → Type 0
RiseInSpaces runs = (space : ℕ) → AreRising (runs_in space runs)

-- what the runs of all spaces have at a page of a space
abbrev pub held_of : List PlacedRun → ℕ → ℕ → Option Held
held_of runs space = held_at (runs_in space runs)

-- a space has a number from 1 on, below another
abbrev pub IsNumbered : ℕ → ℕ → Type 0
IsNumbered end space = (0 < space) × (space < end)

-- this differs in the spaces from 1 on that are below a number
pub record AreDifferences (contents : List (List ℕ)) (end : ℕ) (before after : ℕ → ℕ → Option Held) (d : Difference)
    : Type 0 where
  pub areas : (space page : ℕ) (was is : Option Prot) → HasChange d.areas.items space page was is
      ↔ (IsNumbered end space × IsChange (before space page) (after space page) was is)
  pub written : (space page : ℕ) → HasPage d.written.items space page
      ↔ (IsNumbered end space × IsWritten contents (before space page) (after space page))

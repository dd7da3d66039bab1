-- What runs of a space have from a page on.
use Rattle.std.specs.Prelude.{◌≡◌, ℕ, ◌+◌, ◌<◌, ◌≤◌, ◌^◌, List, All, IfSome}
use Rattle.sd_restore.specs.declared.placed_run.PlacedRun.{PlacedRun}
use Rattle.sd_restore.specs.Placed.{IsInSlots, IsWithin}
use Rattle.sd_diff.specs.declared.difference.PageRun.{PageRun}
use Rattle.sd_diff.specs.declared.part.Part.{Part}
use Rattle.sd_diff.specs.Held.{AreRising, held_at, held_in}

-- the pages of a run, from one page up to another
pub record IsRest (from to : ℕ) (run : PlacedRun) : Type 0 where
  pub within : IsWithin run
  pub first : run.first ≡ from
  pub last : to ≤ from + run.count

-- runs have this from a page on
pub record IsPart (runs : List PlacedRun) (at : ℕ) (part : Part) : Type 0 where
  pub some : at < part.until
  pub within : part.until ≤ 2 ^ 35
  pub rest : IfSome part.run (IsRest at part.until)
  pub slots : (count : ℕ) → All (λ (r : PlacedRun). IsInSlots count r.there) runs
      → IfSome part.run (λ r. IsInSlots count r.there)
  pub same : AreRising runs → (page : ℕ) → at ≤ page → page < part.until → held_at runs page ≡ held_in part.run page

-- where a part has a run, it has these pages, in one of so many slots
pub record HasRest (count : ℕ) (pages : PageRun) (part : Part) : Type 0 where
  pub rest : IfSome part.run (IsRest pages.first (pages.first + pages.count))
  pub slots : IfSome part.run (λ r. IsInSlots count r.there)

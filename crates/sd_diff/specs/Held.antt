-- Which page lies where, by runs of one space.
use Rattle.std.specs.Prelude.{ℕ, ◌+◌, ◌-◌, ◌<◌, ◌≤◌, if◌then◌else◌, List, [], ◌∷◌, All, Option, Some, None}
use Rattle.sd_areas.specs.declared.prot.Prot.{Prot}
use Rattle.sd_areas.specs.Pages.{is_within}
use Rattle.sd_chain.specs.declared.found.Found.{Found}
use Rattle.sd_chain.specs.Chains.{found_on}
use Rattle.sd_restore.specs.declared.placed_run.PlacedRun.{PlacedRun}

-- a mapped page: its permissions, and where its bytes are
pub record Held : Type 0 where
  pub prot : Prot
  pub there : Found

-- what a run has at a page of it
abbrev pub held_by : PlacedRun → ℕ → Held
held_by r page = record { prot = r.prot; there = found_on r.there (page - r.first) }

-- what the first of these runs that has a page has there
abbrev pub held_at : List PlacedRun → ℕ → Option Held
held_at [] page = None
held_at (r ∷ runs) page = if is_within r.first r.count page then Some (held_by r page) else held_at runs page

-- what a run has at a page of it, where there is one
abbrev pub held_in : Option PlacedRun → ℕ → Option Held
held_in None page = None
held_in (Some r) page = Some (held_by r page)

-- each run begins after the one before
abbrev pub AreRising : List PlacedRun → Type 0
AreRising [] = Unit {0}
AreRising (r ∷ runs) = All (λ (s : PlacedRun). r.first + r.count ≤ s.first) runs × AreRising runs

-- the first of these runs ends after a page
abbrev pub EndsAfter : ℕ → List PlacedRun → Type 0
EndsAfter page [] = Unit {0}
EndsAfter page (r ∷ runs) = page < r.first + r.count

-- Lists of areas, as a call builds them from the front.
use Rattle.std.specs.Prelude.{◌≡◌, Bool, false, ◌==◌, ℕ, ◌+◌, ◌-◌, ◌≤◌, ◌<◌, List, [], ◌∷◌, ◌&&◌, nat_le, nat_lt}
use Rattle.std.specs.Prelude.{if◌then◌else◌, Option, Some, None, min, max, IsSome}
use Rattle.sd_areas.specs.declared.area.Area.{Area}
use Rattle.sd_areas.specs.declared.prot.Prot.{Prot}
use Rattle.sd_areas.specs.Pages.{is_within}
use Rattle.sd_areas.specs.Prot.{prot_bits}
use Rattle.sd_areas.specs.Areas.{AreMaximal, prot_in}

-- the last of the areas, or the one before them
abbrev pub last_after : Option Area → List Area → Option Area
last_after before [] = before
last_after before (area ∷ areas) = last_after (Some area) areas

-- the page after an area
abbrev pub area_end : Option Area → ℕ
area_end None = 0
area_end (Some area) = area.first + area.count

-- the page after the last of the areas
abbrev pub end_of_all : List Area → ℕ
end_of_all areas = area_end (last_after None areas)

-- an area begins where the other ends, with its permissions
abbrev pub is_area_continued : Area → Area → Bool
is_area_continued last area = (last.first + last.count == area.first) && (prot_bits last.prot == prot_bits area.prot)

-- an area has a page of a run, which ends before another page
abbrev pub is_met : ℕ → ℕ → Area → Bool
is_met begin end area = nat_lt area.first end && nat_lt (begin - area.first) area.count

-- an area has each page of a run, which ends before another page, with these permissions
abbrev pub is_covering : ℕ → ℕ → Prot → Area → Bool
is_covering begin end prot area = nat_le area.first begin && nat_le (end - area.first) area.count
    && (prot_bits area.prot == prot_bits prot)

-- one more area was put after the others
pub record IsExtended (old new : List Area) (area : Area) : Type 0 where
  pub maximal : AreMaximal None new
  pub ends : end_of_all new ≡ area.first + area.count
  pub same : (page : ℕ)
      → prot_in new page ≡ (if is_within area.first area.count page then Some area.prot else prot_in old page)

-- the part of an area from one page up to another
pub record IsPart (area : Area) (from to : ℕ) (part : Area) : Type 0 where
  pub begins : part.first ≡ max area.first from
  pub ends : part.first + part.count ≡ min (area.first + area.count) to
  pub pages : 0 < part.count
  pub same : part.prot ≡ area.prot

-- that part was put after the others, if there is one
pub record HasPart (old new : List Area) (area : Area) (from to : ℕ) : Type 0 where
  pub maximal : AreMaximal None new
  pub ends : end_of_all new ≤ max (end_of_all old) (min (area.first + area.count) to)
  pub same : (page : ℕ)
      → prot_in new page ≡ (if (nat_le from page && nat_lt page to) && is_within area.first area.count page
      then Some area.prot else prot_in old page)

-- the parts of a list of areas from one page up to another were put after the others
pub record HasParts (old new source : List Area) (from to : ℕ) : Type 0 where
  pub maximal : AreMaximal None new
  pub ends : end_of_all new ≤ max from (min (end_of_all source) to)
  pub same : (page : ℕ)
      → prot_in new page ≡ (if nat_le from page && nat_lt page to then prot_in source page else prot_in old page)

-- the pages of one area have its permissions, and every other page is as before
pub record HasRun (old new : List Area) (area : Area) : Type 0 where
  pub maximal : AreMaximal None new
  pub same : (page : ℕ)
      → prot_in new page ≡ (if is_within area.first area.count page then Some area.prot else prot_in old page)

-- an area lies within the only one of the areas, which has other permissions and pages on both sides of it
pub record IsSplitBy (areas : List Area) (area : Area) : Type 0 where
  pub around : Area
  pub only : areas ≡ around ∷ []
  pub before : around.first < area.first
  pub after : area.first + area.count < around.first + around.count
  pub apart : (prot_bits around.prot == prot_bits area.prot) ≡ false

-- no page of the run is there, and every other page is as before
pub record HasGap (old new : List Area) (first count : ℕ) : Type 0 where
  pub maximal : AreMaximal None new
  pub same : (page : ℕ) → prot_in new page ≡ (if is_within first count page then None else prot_in old page)

-- the areas map each page of a run up to one that they don't map
pub record IsMappedUpTo (areas : List Area) (first next : ℕ) : Type 0 where
  pub begins : first ≤ next
  pub mapped : (page : ℕ) → first ≤ page → page < next → IsSome (prot_in areas page)
  pub hole : prot_in areas next ≡ None

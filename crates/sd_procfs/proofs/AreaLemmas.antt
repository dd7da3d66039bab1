-- Each area of a space ends within it.
use Rattle.std.proofs.Common.{◌≡◌, ◌<◌, ◌≤◌, ◌+◌, ◌^◌, ℕ, zero, suc, true, List, [], ◌∷◌, length, get_or, Option, Some, sym, subst, arith}
use Rattle.sd_areas.specs.declared.area.Area.{Area}
use Rattle.sd_areas.specs.Areas.{AreMaximal, is_area_after}

ends_within : (before : Option Area) (area : Area) → is_area_after before area ≡ true → area.first + area.count ≤ 2 ^ 35
ends_within before area is = grind arith

pub each_ends_within : (before : Option Area) (areas : List Area) (i : ℕ) (area : Area) → AreMaximal before areas → i < length areas → area ≡ get_or areas i area
    → area.first + area.count ≤ 2 ^ 35
each_ends_within before [] i area are less is = absurd (omega (arith, less))
each_ends_within before (a ∷ areas) zero area are less is = subst (λ (x : Area). x.first + x.count ≤ 2 ^ 35) (sym is) (ends_within before a are.0)
each_ends_within before (a ∷ areas) (suc i) area are less is = each_ends_within (Some a) areas i area are.1 (omega (arith, less)) is

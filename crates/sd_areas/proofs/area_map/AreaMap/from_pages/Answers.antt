use Rattle.std.proofs.Common.{◌≡◌, subst}
use Rattle.std.specs.Prelude.{Ok, IfOk, IfErr}
use Rattle.sd_areas.specs.Areas.{PageMap}
use Rattle.sd_areas.specs.Calls.{within_areas, RefusesInOrder}
use Rattle.sd_areas.proofs.PagesOf.{pages_again}
use Rattle.sd_areas.proofs.area_map.AreaMap.from_pages.Goals as goal

pub returns-clause-ok : goal.returns-clause-ok
returns-clause-ok c = subst (λ (pages : PageMap). IfOk c.from_areas.result (λ map. within_areas pages ≡ Ok map)) (pages_again _ _ c.in_ok-areas.ensures.areas) c.from_areas.ensures.ok

pub returns-clause-refused : goal.returns-clause-refused
returns-clause-refused c = subst (λ (pages : PageMap). IfErr c.from_areas.result (RefusesInOrder (within_areas pages))) (pages_again _ _ c.in_ok-areas.ensures.areas) c.from_areas.ensures.refused

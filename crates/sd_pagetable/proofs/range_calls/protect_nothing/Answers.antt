use Rattle.std.proofs.Common.{arith}
use Rattle.sd_pagetable.proofs.RangeRefusals.{alive_areas, nothing_dead, nothing_between, nothing_refused}
use Rattle.sd_pagetable.proofs.range_calls.protect_nothing.Goals as goal

pub returns-in_default : goal.returns-in_default
returns-in_default c = grind (arith, alive_areas, nothing_dead)

pub returns-then-address-ne0 : goal.returns-then-address-ne0
returns-then-address-ne0 c = grind (arith, alive_areas, nothing_between)

pub returns : goal.returns
returns c = grind (arith, alive_areas, nothing_refused)

use Rattle.std.proofs.Common.{arith}
use Rattle.sd_pagetable.proofs.RunSteps.{mapped_from, passed}
use Rattle.sd_pagetable.proofs.ranges.fill_next.Goals as goal

pub returns-then-mapped-first-clause-value : goal.returns-then-mapped-first-clause-value
returns-then-mapped-first-clause-value c = grind (arith, passed, mapped_from)

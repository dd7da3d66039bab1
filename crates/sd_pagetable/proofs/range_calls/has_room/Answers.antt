use Rattle.std.proofs.Common.{arith}
use Rattle.sd_pagetable.proofs.PlainRanges.{run_is_mapped, mapped_count}
use Rattle.sd_pagetable.proofs.RangeRefusals.{is_at_most, is_above}
use Rattle.sd_pagetable.proofs.range_calls.has_room.Goals as goal

pub returns-then-end-first-gt-MAPPED_PAGE_LIMIT-clause-full : goal.returns-then-end-first-gt-MAPPED_PAGE_LIMIT-clause-full
returns-then-end-first-gt-MAPPED_PAGE_LIMIT-clause-full c = grind (arith, run_is_mapped)

pub returns-clause-fits : goal.returns-clause-fits
returns-clause-fits c = grind (arith, is_at_most)

pub returns-clause-full : goal.returns-clause-full
returns-clause-full c = grind (arith, is_above, mapped_count)

pub returns-clause-holds : goal.returns-clause-holds
returns-clause-holds c = grind (arith, is_at_most, mapped_count)

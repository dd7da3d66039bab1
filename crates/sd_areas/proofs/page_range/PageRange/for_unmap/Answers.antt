use Rattle.std.proofs.Common.{sym, arith}
use Rattle.sd_areas.proofs.Calls.{unmapped_invalid, unmapped_outside, range_found, range_past, gap_by_range}
use Rattle.sd_areas.proofs.page_range.PageRange.for_unmap.Goals as goal

pub returns-then-not-is_range-clause-refused : goal.returns-then-not-is_range-clause-refused
returns-then-not-is_range-clause-refused c = λ pages. unmapped_invalid pages _ _ (sym c.if-not-is_range.ensures)

pub returns-clause-ok : goal.returns-clause-ok
returns-clause-ok c = grind (arith, range_found, gap_by_range)

pub returns-clause-refused : goal.returns-clause-refused
returns-clause-refused c =
    range_past c.new.result c.ok_or.result _ _ _ _ c.ok_or.ensures.value c.new.ensures.within (λ past pages. unmapped_outside pages _ _ (sym c.if-not-is_range.ensures) past)

use Rattle.std.proofs.Common.{arith}
use Rattle.sd_image.proofs.Items.{first_past, prot_past, area_is, not_after, is_after}
use Rattle.sd_image.proofs.table_reading.area_in.Goals as goal

pub returns-in_err-first : goal.returns-in_err-first
returns-in_err-first c = rw c.from_residual.ensures (first_past _ c.args.item.now c.u64_at.result c.u64_at.ensures (λ lt. let some = c.in_err-first.ensures.within.1 lt in absurd cc))

pub returns-in_err-prot : goal.returns-in_err-prot
returns-in_err-prot c = rw c.from_residual-in_err-prot.ensures (prot_past _ c.args.item.now c.u32_at.result c.u32_at.ensures c.in_err-prot.ensures)

pub returns-then-not-is_area_after : goal.returns-then-not-is_area_after
returns-then-not-is_area_after c = grind (arith, area_is, not_after)

pub returns : goal.returns
returns c = grind (arith, area_is, is_after)

use Rattle.std.proofs.Common.{arith}
use Rattle.sd_image.proofs.Items.{run_first_past, kind_past, run_is, run_not_after, run_is_after}
use Rattle.sd_image.proofs.table_reading.run_in.Goals as goal

pub returns-in_err-first : goal.returns-in_err-first
returns-in_err-first c = rw c.from_residual.ensures (run_first_past c.args.parent _ c.args.item.now c.u64_at.result c.u64_at.ensures (λ lt. let some = c.in_err-first.ensures.within.1 lt in absurd cc))

pub returns-in_err-kind : goal.returns-in_err-kind
returns-in_err-kind c = rw c.from_residual-in_err-kind.ensures (kind_past c.args.parent _ c.args.item.now c.u32_at.result c.u32_at.ensures c.in_err-kind.ensures)

pub returns-then-not-is_run_after : goal.returns-then-not-is_run_after
returns-then-not-is_run_after c = grind (arith, run_is, run_not_after)

pub returns : goal.returns
returns c = grind (arith, run_is, run_is_after)

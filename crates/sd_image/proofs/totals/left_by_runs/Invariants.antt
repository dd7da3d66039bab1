use Rattle.std.proofs.Common.{◌≡◌, ◌+◌, take}
use Rattle.std.specs.Prelude.{sum_by, if◌then◌else◌}
use Rattle.sd_image.specs.declared.run.Run.{Run}
use Rattle.sd_image.specs.Table.{is_data}
use Rattle.sd_image.proofs.totals.left_by_runs.Given as goal

abbrev pub invariant-loop-run : goal.invariant-loop-run
invariant-loop-run l = l.left + sum_by (λ (run : Run). if is_data run then run.count else 0) (take l.run-index l.runs) ≡ l.limit

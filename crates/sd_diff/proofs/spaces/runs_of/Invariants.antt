use Rattle.std.proofs.Common.{◌≡◌, nat_eq, take}
use Rattle.std.specs.Prelude.{filter}
use Rattle.sd_restore.specs.declared.placed_run.PlacedRun.{PlacedRun}
use Rattle.sd_diff.proofs.spaces.runs_of.Given as goal

-- of the runs so far those of the space
abbrev pub invariant-loop-run : goal.invariant-loop-run
invariant-loop-run l = l.found.items ≡ filter (λ (r : PlacedRun). nat_eq r.space l.space) (take l.run-index l.runs)

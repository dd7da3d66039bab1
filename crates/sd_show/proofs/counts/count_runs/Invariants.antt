use Rattle.std.proofs.Common.{◌≡◌, ◌-◌, ◌^◌, min, take}
use Rattle.sd_show.specs.Counts.{runs_pages}
use Rattle.sd_show.proofs.counts.count_runs.Given as goal

-- the pages of the runs so far
abbrev pub invariant-loop-run : goal.invariant-loop-run
invariant-loop-run l = l.pages ≡ min (runs_pages l.fn.kind (take l.run-index l.runs)) (2 ^ 64 - 1)

use Rattle.std.proofs.Common.{◌≡◌, ◌+◌, ◌≤◌, drop}
use Rattle.sd_merge.specs.Sources.{few_pages, runs_count}
use Rattle.sd_merge.proofs.source.count_runs.Given as goal

-- the pages so far and those of what is left are all
abbrev pub invariant-loop-run : goal.invariant-loop-run
invariant-loop-run l = record {
  all : few_pages (l.count + runs_count (drop l.run-index l.runs)) ≡ few_pages (runs_count l.runs);
  few : l.count ≤ 65536;
}

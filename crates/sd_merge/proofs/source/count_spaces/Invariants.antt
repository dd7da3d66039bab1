use Rattle.std.proofs.Common.{◌≡◌, ◌+◌, ◌≤◌, drop}
use Rattle.sd_writing.specs.Tables.{listed}
use Rattle.sd_merge.specs.Sources.{few_pages, listed_count}
use Rattle.sd_merge.proofs.source.count_spaces.Given as goal

-- the pages so far and those of what is left are all
abbrev pub invariant-loop-space : goal.invariant-loop-space
invariant-loop-space l = record {
  all : few_pages (l.count + listed_count (listed (drop l.space-index l.spaces))) ≡ few_pages (listed_count (listed l.spaces));
  few : l.count ≤ 65536;
}

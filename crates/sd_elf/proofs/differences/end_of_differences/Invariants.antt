use Rattle.std.proofs.Common.{◌<◌, ◌≤◌}
use Rattle.sd_elf.specs.Pieces.{AreSame}
use Rattle.sd_elf.proofs.differences.end_of_differences.Given as goal

-- after the end none so far differs
abbrev pub invariant-loop-k : goal.invariant-loop-k
invariant-loop-k l = record {
  some : l.from < l.end;
  within : l.end ≤ l.k;
  behind : AreSame l.old l.new l.end l.k;
}

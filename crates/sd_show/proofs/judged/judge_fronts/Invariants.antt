use Rattle.std.proofs.Common.{◌≡◌, ◌≤◌}
use Rattle.sd_disk.specs.Reads.{OnlyReads}
use Rattle.sd_show.proofs.judged.judge_fronts.Given as goal

-- the fronts so far were read, and no call failed
abbrev pub invariant-loop : goal.invariant-loop
invariant-loop g l = record {
  long : 2097152 ≤ l.count;
  reads : OnlyReads g.D.Disk l.fn.disk l.disk;
  stays : g.D.Disk.failed l.disk ≡ g.D.Disk.failed l.fn.disk;
}

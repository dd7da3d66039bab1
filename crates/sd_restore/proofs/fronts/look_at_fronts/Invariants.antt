use Rattle.std.proofs.Common.{◌≡◌, ◌+◌, ◌≤◌}
use Rattle.sd_disk.specs.Reads.{OnlyReads}
use Rattle.sd_restore.proofs.fronts.look_at_fronts.Given as goal

-- the fronts so far were read with a call each, and none of these failed
abbrev pub invariant-loop : goal.invariant-loop
invariant-loop g l = record {
  within : l.counter ≤ 42;
  reads : OnlyReads g.D.Disk l.fn.disk l.disk;
  stays : g.D.Disk.failed l.disk ≡ g.D.Disk.failed l.fn.disk;
  calls : g.D.Disk.calls l.disk ≤ g.D.Disk.calls l.fn.disk + l.counter;
}

use Rattle.std.proofs.Common.{◌≡◌, length}
use Rattle.sd_disk.specs.Reads.{OnlyReads}
use Rattle.sd_send.proofs.followed.Followed.look_at_all.Given as goal

-- the slots so far were only read
abbrev pub invariant-loop-slot : goal.invariant-loop-slot
invariant-loop-slot g l = record {
  reads : OnlyReads g.D.Disk l.fn.disk l.disk;
  count : l.slot-end ≡ length (g.D.Disk.contents l.fn.disk);
}

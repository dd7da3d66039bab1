use Rattle.std.proofs.Common.{◌≡◌, length}
use Rattle.sd_disk.specs.Reads.{OnlyReads}
use Rattle.sd_world.specs.Opens.{AreSynced}
use Rattle.sd_world.proofs.opening.sync_all.Given as goal

-- the slots that came so far
abbrev pub invariant-loop-slot : goal.invariant-loop-slot
invariant-loop-slot g l = record {
  reads : OnlyReads g.D.Disk l.fn.disk l.disk;
  count : l.slot-end ≡ length (g.D.Disk.contents l.fn.disk);
  synced : AreSynced l.slot (g.D.Disk.contents l.fn.disk) (g.D.Disk.may_leave l.disk);
}

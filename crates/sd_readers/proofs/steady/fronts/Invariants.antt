use Rattle.std.proofs.Common.{◌≡◌, length, map, take}
use Rattle.sd_disk.specs.Reads.{OnlyReads}
use Rattle.sd_readers.specs.Fronts.{front}
use Rattle.sd_readers.proofs.steady.fronts.Given as goal

-- the fronts of the slots so far, which were only read
abbrev pub invariant-loop-slot : goal.invariant-loop-slot
invariant-loop-slot g l = record {
  reads : OnlyReads g.D.Disk l.fn.disk l.disk;
  count : l.slot-end ≡ length (g.D.Disk.contents l.fn.disk);
  stays : g.D.Disk.failed l.disk ≡ g.D.Disk.failed l.fn.disk;
  many : length l.fronts.items ≡ l.slot;
  exact : g.D.Disk.is_honest l.disk → l.fronts.items ≡ map front (take l.slot (g.D.Disk.contents l.fn.disk));
}

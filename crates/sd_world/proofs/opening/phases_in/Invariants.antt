use Rattle.std.proofs.Common.{◌≡◌, length, map, take}
use Rattle.sd_disk.specs.Reads.{OnlyReads}
use Rattle.sd_gate.specs.Laws.{found_phase}
use Rattle.sd_world.proofs.opening.phases_in.Given as goal

-- the slots that came so far
abbrev pub invariant-loop-slot : goal.invariant-loop-slot
invariant-loop-slot g l = record {
  reads : OnlyReads g.D.Disk l.fn.disk l.disk;
  count : l.slot-end ≡ length (g.D.Disk.contents l.fn.disk);
  many : length l.phases.items ≡ l.slot;
  phases : g.D.Disk.is_honest l.disk → l.phases.items ≡ map found_phase (take l.slot (g.D.Disk.contents l.fn.disk));
}

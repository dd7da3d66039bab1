use Rattle.std.proofs.Common.{◌≡◌, take, length}
use Rattle.std.specs.List.{list_any}
use Rattle.sd_disk.specs.Reads.{OnlyReads}
use Rattle.sd_show.specs.Slots.{is_damaged}
use Rattle.sd_show.proofs.json.take_slots.Given as goal

-- the slots so far were only read, and it is known whether one of them is damaged
abbrev pub invariant-loop-slot : goal.invariant-loop-slot
invariant-loop-slot g l = record {
  reads : OnlyReads g.D.Disk l.fn.disk l.disk;
  stays : g.D.Disk.failed l.disk ≡ g.D.Disk.failed l.fn.disk;
  count : l.slot-end ≡ length (g.D.Disk.contents l.fn.disk);
  damaged : g.D.Disk.is_honest l.disk → l.damaged ≡ list_any is_damaged (take l.slot (g.D.Disk.contents l.fn.disk));
}

use Rattle.std.proofs.Common.{◌≡◌, [], replicate, map}
use Rattle.sd_disk.specs.Slots.{held, room_of, AreAtRest}
use Rattle.sd_disk.proofs.mem_disk.MemDisk.new.Given as goal

abbrev pub invariant-loop : goal.invariant-loop
invariant-loop l = record {
  empty : map held l.files.items ≡ replicate l.counter [];
  rooms : map room_of l.files.items ≡ replicate l.counter l.fn.bytes;
  rest : AreAtRest l.files.items;
}

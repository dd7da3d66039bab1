use Rattle.std.proofs.Common.{◌≡◌, ℕ, ◌<◌, List, length, map, take}
use Rattle.sd_disk.specs.Contents.{file_at}
use Rattle.sd_disk.specs.Memory.{memory_events, memory_may_leave, memory_rooms}
use Rattle.sd_disk.specs.Outcomes.{Leaves, unsynced_after}
use Rattle.sd_disk.specs.Slots.{held, room_of, AreAtRest}
use Rattle.sd_disk.proofs.mem_disk.MemDisk.crash.Given as goal

-- the slots so far are of an outcome, and of the one that is aimed at
abbrev pub invariant-loop-slot : goal.invariant-loop-slot
invariant-loop-slot g l = record {
  size : length l.files.items ≡ l.slot;
  rooms : map room_of l.files.items ≡ take l.slot (memory_rooms l.self);
  rest : AreAtRest l.files.items;
  outcome : (number : ℕ) → number < l.slot → Leaves (unsynced_after l.self.budget.log.trace.outside (memory_events l.self) number) (file_at (map held l.files.items) number);
  aimed : (c : List (List ℕ)) → g.P.Pick.aims l.fn.pick c → memory_may_leave l.self c
      → g.P.Pick.aims l.pick c × ((number : ℕ) → number < l.slot → file_at (map held l.files.items) number ≡ file_at c number);
}

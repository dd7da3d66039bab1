use Rattle.std.proofs.Common.{◌≡◌, take}
use Rattle.sd_free_slots.specs.Marks.{free_from}
use Rattle.sd_free_slots.proofs.marks.free_slots.Given as goal

abbrev pub invariant-loop-slot : goal.invariant-loop-slot
invariant-loop-slot l = l.slots.items ≡ free_from 0 (take l.slot l.fn.marks)

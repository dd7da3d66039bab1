use Rattle.std.proofs.Common.{◌≡◌, ◌≤◌, take, vec_capacity}
use Rattle.sd_free_slots.specs.Lists.{listed_from}
use Rattle.sd_free_slots.proofs.list_room.list_unmarked.Given as goal

abbrev pub invariant-loop-slot : goal.invariant-loop-slot
invariant-loop-slot l = (l.list.items ≡ listed_from 0 (take l.slot l.fn.marks) (take l.slot l.fn.serials)) × (vec_capacity l.fn.list ≤ vec_capacity l.list)

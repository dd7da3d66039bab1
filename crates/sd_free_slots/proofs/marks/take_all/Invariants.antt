use Rattle.std.proofs.Common.{Some}
use Rattle.sd_free_slots.specs.Marks.{TakesSlots}
use Rattle.sd_free_slots.proofs.MarkLemmas.{IsAmong}
use Rattle.sd_free_slots.proofs.marks.take_all.Given as goal

abbrev pub invariant-loop-slot : goal.invariant-loop-slot
invariant-loop-slot l = TakesSlots (IsAmong Some l.fn.slots l.slot-index) l.fn.marks.items l.marks.items

use Rattle.std.specs.Option.{option_map}
use Rattle.sd_free_slots.specs.Marks.{TakesSlots}
use Rattle.sd_free_slots.specs.Taken.{slot_of_id}
use Rattle.sd_free_slots.proofs.MarkLemmas.{IsAmong}
use Rattle.sd_free_slots.proofs.taken.take_outs.Given as goal

abbrev pub invariant-loop-out : goal.invariant-loop-out
invariant-loop-out l = TakesSlots (IsAmong (option_map slot_of_id) l.fn.outs l.out-index) l.fn.marks.items l.marks.items

use Rattle.sd_free_slots.specs.Lists.{Notes}
use Rattle.sd_free_slots.proofs.ListLemmas.{IsEarly}
use Rattle.sd_free_slots.proofs.list_room.note_serials.Given as goal

abbrev pub invariant-loop-serial : goal.invariant-loop-serial
invariant-loop-serial l = Notes l.fn.catalog (IsEarly l.fn.before l.serial-index) l.serial-index l.fn.serials.items l.serials.items

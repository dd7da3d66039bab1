use Rattle.std.proofs.Common.{Some, slice_set, ap}
use Rattle.sd_free_slots.proofs.ListLemmas.{notes_one}
use Rattle.sd_free_slots.proofs.list_room.note_serial.Goals as goal

pub returns-then-slot-len : goal.returns-then-slot-len
returns-then-slot-len c = notes_one c.args.catalog.now c.args.serial c.in-Some.image.now c.args.serials.now.items _ c.in-Some.ensures.0
    (ap (λ slot. slice_set c.args.serials.now.items slot (Some c.args.serial)) c.slot-then-slot-len.ensures)

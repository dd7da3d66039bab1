use Rattle.std.proofs.Common.{◌+◌, arith}
use Rattle.std.proofs.lemmas.Option.{slice_get-get_or}
use Rattle.sd_free_slots.proofs.ListLemmas.{notes_all, notes_more}
use Rattle.sd_free_slots.proofs.list_room.note_serials.Goals as goal

pub loop-serial-preserved : goal.loop-serial-preserved
loop-serial-preserved c =
    notes_more c.args.catalog.now c.args.before.now c.loop-serial.serial-index (c.loop-serial.serial-index + 1) _ c.args.serials.now.items c.loop-serial.serials.items c.note_serial.new.serials.items
    (omega arith) (slice_get-get_or c.args.before.now c.loop-serial.serial-index _ c.loop-serial-test.true) c.loop-serial.invariant c.note_serial.ensures

pub returns : goal.returns
returns c =
    let past = c.loop-serial-test.false in
    let within = c.loop-serial.auto.serial-index-end in
    notes_all c.args.catalog.now c.args.before.now c.loop-serial.serial-index c.args.serials.now.items c.loop-serial.serials.items (omega (arith, past, within)) c.loop-serial.invariant

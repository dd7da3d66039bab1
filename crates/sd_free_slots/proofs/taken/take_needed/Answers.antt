use Rattle.sd_free_slots.proofs.TakenLemmas.{needed_of}
use Rattle.sd_free_slots.proofs.taken.take_needed.Goals as goal

pub returns : goal.returns
returns c = needed_of c.args.catalog.now c.args.dumper.now.running c.args.merger.now c.tip_serial.result c.parent_serial.result c.source_serial.result
    c.tip_serial.ensures c.parent_serial.ensures c.source_serial.ensures _ _ _ _ c.take_root.ensures c.take_root-2.ensures c.take_root-3.ensures

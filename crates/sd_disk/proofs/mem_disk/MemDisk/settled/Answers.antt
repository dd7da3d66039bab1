use Rattle.std.proofs.Common.{List, map, subst}
use Rattle.sd_disk.specs.Crash.{Only}
use Rattle.sd_disk.specs.Outcomes.{MayLeave}
use Rattle.sd_disk.specs.Slots.{held}
use Rattle.sd_disk.specs.declared.slot_file.SlotFile.{SlotFile}
use Rattle.sd_disk.proofs.TrackLemmas.{settled_slots}
use Rattle.sd_disk.proofs.mem_disk.MemDisk.settled.Goals as goal

pub returns-clause-settled : goal.returns-clause-settled
returns-clause-settled c =
    let record_of = c.new-budget.result.log.trace in
    let only : List SlotFile → Type 0 = λ slots. Only (map held slots) (MayLeave record_of.outside record_of.events) in
    subst only c.deref.ensures.value (settled_slots c.deref.result.now _ _ c.new-budget.ensures.settled)

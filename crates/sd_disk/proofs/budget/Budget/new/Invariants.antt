use Rattle.std.proofs.Common.{map}
use Rattle.sd_disk.specs.Outcomes.{AreSettled}
use Rattle.sd_disk.specs.Slots.{held}
use Rattle.sd_disk.proofs.budget.Budget.new.Given as goal

abbrev pub ghost-new : goal.ghost-new
ghost-new g a = g.outside

-- the slots so far are synced
abbrev pub invariant-loop-slot : goal.invariant-loop-slot
invariant-loop-slot g l = AreSettled (map held l.slots) l.slot l.log.trace.outside l.log.trace.events

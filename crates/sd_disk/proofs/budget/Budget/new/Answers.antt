use Rattle.sd_disk.proofs.TrackLemmas.{none_settled, one_settled}
use Rattle.sd_disk.proofs.budget.Budget.new.Goals as goal

pub loop-slot-init : goal.loop-slot-init
loop-slot-init g c = none_settled _ _ _ _ c.requires c.new-log.ensures.outside c.new-log.ensures.empty

pub loop-slot-preserved : goal.loop-slot-preserved
loop-slot-preserved g c = one_settled _ _ _ _ _ _ c.note.ensures.outside c.note.ensures.events c.loop-slot.invariant

use Rattle.std.proofs.Common.{◌≡◌}
use Rattle.sd_areas.specs.Memory.{memory_of}
use Rattle.sd_fold.proofs.AddedLemmas.{SpacesAdded}
use Rattle.sd_fold.proofs.room.add_all.Given as goal

abbrev pub invariant-loop-space : goal.invariant-loop-space
invariant-loop-space l = SpacesAdded l.fn.overlay.entries l.space-iterator l.left.entries l.fn.added.items l.added.items (memory_of l.fn.base) (memory_of l.base)
    × (l.base.checkpoint ≡ l.fn.base.checkpoint)

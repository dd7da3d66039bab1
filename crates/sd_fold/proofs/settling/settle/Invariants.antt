use Rattle.std.proofs.Common.{◌≡◌}
use Rattle.sd_areas.specs.Memory.{memory_of}
use Rattle.sd_fold.proofs.SettledLemmas.{SpacesSettled}
use Rattle.sd_fold.proofs.settling.settle.Given as goal

abbrev pub invariant-loop-space : goal.invariant-loop-space
invariant-loop-space l = SpacesSettled l.fn.overlay.entries l.space-iterator (memory_of l.fn.base) (memory_of l.base)
    × (l.base.checkpoint ≡ l.fn.base.checkpoint)

use Rattle.std.proofs.Common.{◌≡◌, length, reverse}
use Rattle.sd_areas.specs.Memory.{memory_of}
use Rattle.sd_fold.specs.Room.{before}
use Rattle.sd_fold.proofs.room.take_out.Given as goal

-- what is left to be taken out leads to where all of it does
abbrev pub invariant-loop-last : goal.invariant-loop-last
invariant-loop-last l = (before (reverse l.added.items) (memory_of l.base) ≡ before (reverse l.fn.added.items) (memory_of l.fn.base))
    × (l.base.checkpoint ≡ l.fn.base.checkpoint)

abbrev pub decreases-loop-last : goal.decreases-loop-last
decreases-loop-last l = length l.added.items

use Rattle.std.proofs.Common.{◌≡◌, take, reverse}
use Rattle.sd_areas.specs.Memory.{memory_of}
use Rattle.sd_journal.specs.History.{Base, memory_after}
use Rattle.sd_fold.specs.Overlay.{memory_over}
use Rattle.sd_fold.proofs.effects.changes_by.Given as goal

-- the changes so far, over the memory, are those of the entries so far
abbrev pub invariant-loop-entry : goal.invariant-loop-entry
invariant-loop-entry l = (start : Base) → start.memory ≡ memory_of l.base
    → memory_over l.overlay.entries (memory_of l.base) ≡ memory_after start (reverse (take l.entry-index l.entries))

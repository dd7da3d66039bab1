use Rattle.std.proofs.Common.{◌<◌, ℕ}
use Rattle.sd_pagetable.specs.Contents.{plain_of}
use Rattle.sd_pagetable.specs.Nested.{inside}
use Rattle.sd_import.specs.Imported.{HasPageOfSegment}
use Rattle.sd_import.proofs.checking.has_segment.Given as goal

-- the pages so far are there
abbrev pub invariant-loop-number : goal.invariant-loop-number
invariant-loop-number g l =
    (k : ℕ) → k < l.number → HasPageOfSegment (g.F.CoreFile.bytes l.file) (inside (plain_of l.memory) l.space) l.segment k

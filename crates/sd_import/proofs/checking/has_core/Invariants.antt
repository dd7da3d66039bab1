use Rattle.std.proofs.Common.{◌<◌, ℕ, slice_index_or}
use Rattle.sd_elf.specs.declared.program_header.ProgramHeader.{ProgramHeader}
use Rattle.sd_pagetable.specs.Contents.{plain_of}
use Rattle.sd_pagetable.specs.Nested.{inside}
use Rattle.sd_import.specs.Imported.{HasSegment}
use Rattle.sd_import.proofs.checking.has_core.Given as goal

-- the segments so far are there
abbrev pub invariant-loop-segment : goal.invariant-loop-segment
invariant-loop-segment g l = (k : ℕ) (d : ProgramHeader) → k < l.segment-index
    → HasSegment (g.F.CoreFile.bytes l.file) (inside (plain_of l.memory) l.space) (slice_index_or l.segments k d)

use Rattle.std.proofs.Common.{◌≡◌, filter, take}
use Rattle.sd_elf.specs.Segments.{is_memory}
use Rattle.sd_elf.proofs.core_file.memory_segments.Given as goal

-- those of memory so far are kept
abbrev pub invariant-loop-segment : goal.invariant-loop-segment
invariant-loop-segment l = l.kept.items ≡ filter is_memory (take l.segment-index l.segments)

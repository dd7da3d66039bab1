use Rattle.std.proofs.Common.{◌≤◌, ◌^◌, length}
use Rattle.sd_elf.proofs.notes.read_segments.Given as goal

-- the notes so far are few
abbrev pub invariant-loop-segment : goal.invariant-loop-segment
invariant-loop-segment g l = length l.all.items ≤ 2 ^ 24

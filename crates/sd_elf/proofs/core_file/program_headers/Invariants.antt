use Rattle.std.proofs.Common.{◌≡◌}
use Rattle.sd_elf.specs.Cores.{program_headers_in}
use Rattle.sd_elf.proofs.core_file.program_headers.Given as goal

-- those so far are read
abbrev pub invariant-loop-k : goal.invariant-loop-k
invariant-loop-k l = l.segments.items ≡ program_headers_in l.k l.bytes

use Rattle.std.proofs.Common.{◌≡◌, ◌++◌, replicate}
use Rattle.sd_elf.proofs.header_text.push_zeros.Given as goal

-- so many zeros are written so far
abbrev pub invariant-loop : goal.invariant-loop
invariant-loop l = l.out.items ≡ l.fn.out.items ++ replicate l.counter 0

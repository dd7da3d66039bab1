use Rattle.std.specs.Io.KnownBytes.{Appends}
use Rattle.sd_elf.specs.Texts.{pages_bytes}
use Rattle.sd_elf.proofs.page_writing.put_read.Given as goal

-- the pages so far are written
abbrev pub invariant-loop-k : goal.invariant-loop-k
invariant-loop-k g l = Appends (g.O.CoreOutput.contents l.fn.out) (g.O.CoreOutput.contents l.out) (pages_bytes l.bytes l.k)

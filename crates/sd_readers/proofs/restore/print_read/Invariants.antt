use Rattle.std.specs.Io.KnownBytes.{Appends}
use Rattle.sd_readers.specs.Texts.{pages_text}
use Rattle.sd_readers.proofs.restore.print_read.Given as goal

-- the pages so far are printed
abbrev pub invariant-loop-k : goal.invariant-loop-k
invariant-loop-k g l = Appends (g.W.Write.contents l.fn.out.writer) (g.W.Write.contents l.out.writer) (pages_text l.first l.bytes l.k)

-- A program that ends well printed what the checkpoint has.
use Rattle.sd_queries.proofs.ReadingLemmas.{at_its_end}
use Rattle.sd_queries.proofs.queries.print_one.Goals as goal

pub returns-in_default-clause-text : goal.returns-in_default-clause-text
returns-in_default-clause-text g c = λ honest zero.
    let ended = c.print_at-ended in
    at_its_end c.args.reader (g.D.Disk.contents c.args.disk.now) c.args.number (g.W.Write.contents c.args.out.now.writer) (g.W.Write.contents ended.new.out.writer)
    (g.W.Write.contents c.exit.new.out.writer) c.exit.new.out.refused c.exit.result ended.result c.exit.ensures.exits (ended.ensures.text honest) zero

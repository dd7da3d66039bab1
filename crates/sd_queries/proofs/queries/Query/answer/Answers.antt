-- What is asked for is what is answered.
use Rattle.std.proofs.Common.{sym, subst}
use Rattle.sd_exit.proofs.EndingLemmas.{came_to_its_end}
use Rattle.sd_queries.specs.Printing.{Answers}
use Rattle.sd_queries.proofs.queries.Query.answer.Goals as goal

pub returns-in-AtLeast-clause-answers : goal.returns-in-AtLeast-clause-answers
returns-in-AtLeast-clause-answers g c =
    let asked = c.print_at_least in
    let after = g.W.Write.contents c.exit.new.out.writer in
    let refused = c.exit.new.out.refused in
    let status = c.exit.result in
    subst (λ query. Answers query (g.D.Disk.is_honest asked.new.disk) (g.D.Disk.contents c.args.disk.now) (g.D.Disk.failed c.args.disk.now)
    (g.D.Disk.failed asked.new.disk) (g.W.Write.contents c.args.out.now.writer) after refused status) (sym c.in-AtLeast.is)
    (λ honest zero. came_to_its_end (g.W.Write.contents asked.new.out.writer) after refused status asked.result c.exit.ensures.exits (asked.ensures.shown honest) zero)

pub returns-in-Difference-clause-answers : goal.returns-in-Difference-clause-answers
returns-in-Difference-clause-answers g c =
    let asked = c.print_compared in
    subst (λ query. Answers query (g.D.Disk.is_honest asked.new.disk) (g.D.Disk.contents c.args.disk.now) (g.D.Disk.failed c.args.disk.now)
    (g.D.Disk.failed asked.new.disk) (g.W.Write.contents c.args.out.now.writer) (g.W.Write.contents asked.new.out.writer) asked.new.out.refused asked.result)
    (sym c.in-Difference.is) asked.ensures.both

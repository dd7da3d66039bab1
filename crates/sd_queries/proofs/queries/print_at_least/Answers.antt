-- The newest checkpoint is the one that is shown.
use Rattle.std.proofs.Common.{arith}
use Rattle.sd_queries.proofs.ReadingLemmas.{shown_at_least}
use Rattle.sd_queries.proofs.queries.print_at_least.Goals as goal

pub returns-in-Some-clause-shown : goal.returns-in-Some-clause-shown
returns-in-Some-clause-shown g c = λ honest.
    shown_at_least (g.D.Disk.contents c.args.disk.now) c.args.least c.in-Some.newest c.in_ok-report.report.checkpoint c.in-Some.is (search arith) (c.in_ok-report.ensures.shown honest)

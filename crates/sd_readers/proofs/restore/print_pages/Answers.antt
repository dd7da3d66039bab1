use Rattle.std.proofs.Common.{Err, List, ℕ}
use Rattle.std.proofs.lemmas.Result.{err_from_is_err_and}
use Rattle.sd_readers.proofs.BreakLemmas.{space_broken}
use Rattle.sd_readers.proofs.restore.print_pages.Goals as goal

pub returns-in_err-print_in_space-clause-begins : goal.returns-in_err-print_in_space-clause-begins
returns-in_err-print_in_space-clause-begins g c = λ honest.
    let was = c.loop-run.invariant in
    let now = c.in_err-print_in_space.ensures in
    let contents : List (List ℕ) = g.D.Disk.contents c.args.disk.now in
    let p = err_from_is_err_and c.from_residual.result c.from_residual.ensures.1 in
    rw (p.1, p.2)
    (space_broken contents c.args.space c.args.runs.now c.loop-run.run-index c.run-item.result c.loop-run-test.true c.run-item.is (Err c.in_err-print_in_space.field-0.0)
    (g.W.Write.contents c.args.out.now.writer) (g.W.Write.contents c.loop-run.out.writer) (g.W.Write.contents c.print_in_space.new.out.writer)
    (was.printed (now.reads.honest honest)) (rw was.reads.same at (now.begins honest)))

-- The point that a run comes to by a line.
use Rattle.std.proofs.Common.{rules, IfOk, Ok}
use Rattle.sd_run.specs.Promise.{Tells}
use Rattle.sd_run.proofs.PromiseLemmas.{runs_line}
use Rattle.sd_run.proofs.lines.run_line.Goals as goal

pub returns-in_err-print_line-clause-promise : goal.returns-in_err-print_line-clause-promise
returns-in_err-print_line-clause-promise g c = λ honest first stands.
    let told : IfOk c.from_residual.result (Tells c.answer-told.result (g.W.Write.contents c.args.out.now.writer) (g.W.Write.contents c.print_line.new.out.writer)) = search rules in
    runs_line g.D.Disk c.points_follow.ensures c.args.line c.args.world.now c.answer-told.new.world c.answer-told.result c.from_residual.result
    (g.W.Write.contents c.args.out.now.writer) (g.W.Write.contents c.print_line.new.out.writer) c.answer-told.ensures.answered told honest first stands

pub returns-in_err-flush_settled-clause-promise : goal.returns-in_err-flush_settled-clause-promise
returns-in_err-flush_settled-clause-promise g c = λ honest first stands.
    let told : IfOk c.from_residual-in_err-flush_settled.result (Tells c.answer-told.result (g.W.Write.contents c.args.out.now.writer) (g.W.Write.contents c.flush_settled.new.out.writer)) = search rules in
    runs_line g.D.Disk c.points_follow.ensures c.args.line c.args.world.now c.answer-told.new.world c.answer-told.result c.from_residual-in_err-flush_settled.result
    (g.W.Write.contents c.args.out.now.writer) (g.W.Write.contents c.flush_settled.new.out.writer) c.answer-told.ensures.answered told honest first stands

pub returns-clause-promise : goal.returns-clause-promise
returns-clause-promise g c = λ honest first stands.
    let from = g.W.Write.contents c.args.out.now.writer in
    let to = g.W.Write.contents c.flush_settled.new.out.writer in
    let told : Tells c.answer-told.result from to c.answer-told.result = search rules in
    runs_line g.D.Disk c.points_follow.ensures c.args.line c.args.world.now c.answer-told.new.world c.answer-told.result (Ok c.answer-told.result)
    from to c.answer-told.ensures.answered told honest first stands

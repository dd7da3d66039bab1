use Rattle.std.proofs.Common.{subst}
use Rattle.std.proofs.lemmas.Result.{IfOk-from_err}
use Rattle.sd_receive.specs.Arrived.{ShowsThen}
use Rattle.sd_arrivals.proofs.receiving.receive_next.Goals as goal

pub returns-in_err-received-clause-keeps : goal.returns-in_err-received-clause-keeps
returns-in_err-received-clause-keeps g c = λ honest ready shown shows.
    let r = c.next.ensures.keeps honest ready shown shows in
    let then = ShowsThen g.D.Disk c.args.disk.now c.next.new.disk shown c.next.new.self.last r.0 in
    (r.0, record { any_moment = r.1.any_moment; at_end = IfOk-from_err c.from_residual.result then c.from_residual.ensures.0 })

pub returns-in_err-report-clause-keeps : goal.returns-in_err-report-clause-keeps
returns-in_err-report-clause-keeps g c = λ honest ready shown shows.
    let r = c.next.ensures.keeps honest ready shown shows in
    let then = ShowsThen g.D.Disk c.args.disk.now c.next.new.disk shown c.next.new.self.last r.0 in
    (r.0, record { any_moment = r.1.any_moment; at_end = IfOk-from_err c.from_residual-in_err-report.result then c.from_residual-in_err-report.ensures.0 })

pub returns-in_ok-report-clause-keeps : goal.returns-in_ok-report-clause-keeps
returns-in_ok-report-clause-keeps g c = λ honest ready shown shows.
    let r = c.in_ok-received.ensures.keeps honest ready shown shows in
    let then = ShowsThen g.D.Disk c.args.disk.now c.next.new.disk shown c.next.new.self.last r.0 in
    (r.0, record { any_moment = r.1.any_moment; at_end = subst then c.in-Checkpoint.is r.1.at_end })

use Rattle.std.proofs.Common.{◌≡◌, ◌<◌, arith}
use Rattle.sd_receipts.proofs.NotedLemmas.{rises_all, rises_more}
use Rattle.sd_receipts.proofs.rising.is_above_all.Goals.{else-earlier-receipt-via-then-earlier-receipt+else-earlier-receipt-2, else-earlier-receipt-via-else-earlier-receipt}
use Rattle.sd_receipts.proofs.rising.is_above_all.Goals as goal

pub loop-earlier-preserved : goal.loop-earlier-preserved
loop-earlier-preserved c =
    let own = elim c.else-earlier-receipt.branch as (λ _. c.earlier-item.result.seat ≡ c.args.receipt.now.seat → c.earlier-item.result.number < c.args.receipt.now.number) [
      | else-earlier-receipt-via-then-earlier-receipt+else-earlier-receipt-2 w ↦ λ same. omega (arith, w.if-earlier-receipt-2.false)
      | else-earlier-receipt-via-else-earlier-receipt w ↦ λ same. absurd (w.if-earlier-receipt.false same)
    ] in
    rises_more c.args.before.now c.loop-earlier.earlier-index c.args.receipt.now c.earlier-item.result c.loop-earlier-test.true c.earlier-item.is c.loop-earlier.invariant own

pub returns-clause-above : goal.returns-clause-above
returns-clause-above c = λ ok. rises_all c.args.before.now c.loop-earlier.earlier-index c.args.receipt.now (omega (arith, c.loop-earlier-test.false)) c.loop-earlier.invariant

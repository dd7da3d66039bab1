use Rattle.std.proofs.Common.{take, arith}
use Rattle.std.proofs.lemmas.Result.{err_from_is_err_and}
use Rattle.sd_receipts.proofs.FaultLemmas.{all_checked, checked_more, fault_at, none_checked}
use Rattle.sd_receipts.proofs.NotedLemmas.{none_noted}
use Rattle.sd_receipts.proofs.checking.check_each.Goals as goal

pub loop-place-init : goal.loop-place-init
loop-place-init c = none_checked c.args.first c.args.entries.now _ (none_noted _ c.no_numbers-last.ensures)

pub returns-in_err-check_one-clause-fault : goal.returns-in_err-check_one-clause-fault
returns-in_err-check_one-clause-fault c =
    let p = err_from_is_err_and c.from_residual.result c.from_residual.ensures.1 in
    rw (p.1, p.2) (fault_at c.args.first c.args.entries.now c.args.receipts.now c.loop-place.place c.index-receipts-place.result c.loop-place.last
    c.in_err-check_one.field-0.0 c.loop-place-test.true c.index-receipts-place.is c.loop-place.invariant c.in_err-check_one.ensures.fault)

pub loop-place-preserved : goal.loop-place-preserved
loop-place-preserved c =
    let one = c.in_ok-check_one.ensures in
    let was = c.loop-place.invariant in
    checked_more c.args.first c.args.entries.now c.args.receipts.now c.loop-place.last c.note.new.last c.loop-place.place c.index-receipts-place.result
    c.loop-place-test.true c.index-receipts-place.is was one.stands one.rises
    (c.note.ensures (take c.loop-place.place c.args.receipts.now) was.noted one.rises)

pub returns-clause-stand : goal.returns-clause-stand
returns-clause-stand c =
    (all_checked c.args.first c.args.entries.now c.args.receipts.now c.loop-place.last c.loop-place.place (omega (arith, c.loop-place-test.false)) c.loop-place.invariant).0

pub returns-clause-rising : goal.returns-clause-rising
returns-clause-rising c =
    (all_checked c.args.first c.args.entries.now c.args.receipts.now c.loop-place.last c.loop-place.place (omega (arith, c.loop-place-test.false)) c.loop-place.invariant).1

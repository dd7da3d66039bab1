use Rattle.sd_receipts.proofs.NotedLemmas.{noted_more, noted_same}
use Rattle.sd_receipts.proofs.rising.note.Goals as goal

pub returns-then-receipt-lt-SEAT_LIMIT : goal.returns-then-receipt-lt-SEAT_LIMIT
returns-then-receipt-lt-SEAT_LIMIT c = λ before noted rises.
    noted_more before c.args.last.now c.args.receipt.now noted c.if-receipt-lt-SEAT_LIMIT.true rises

pub returns-else-receipt-lt-SEAT_LIMIT : goal.returns-else-receipt-lt-SEAT_LIMIT
returns-else-receipt-lt-SEAT_LIMIT c = λ before noted rises.
    noted_same before c.args.last.now c.args.receipt.now noted c.if-receipt-lt-SEAT_LIMIT.false

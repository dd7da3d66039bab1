use Rattle.std.proofs.Common.{Err, refl, sym, ◌∙◌, ap, subst}
use Rattle.sd_restore.proofs.ScanLemmas.{open_scanned, double_first, double_again, one_more_read}
use Rattle.sd_image.specs.Table.{IsTable}
use Rattle.sd_restore.proofs.scanned.Scanned.add.Goals as goal

pub returns-in-Ok-clause-scanned : goal.returns-in-Ok-clause-scanned
returns-in-Ok-clause-scanned c = λ contents image less opens is header spaces was.
    open_scanned c.open_slot.ensures contents c.args.slot c.args.self.now c.add.new.self
    (record { slot = c.args.slot; header = c.args.decoded.header; spaces = c.in_ok-placed.placed }) image less opens is header
    (spaces ∙ sym c.in_ok-placed.ensures) refl
    (λ other there. absurd (let double = c.in-Ok.ensures.double.1 (other, there) in cc)) c.in-Ok.ensures.added was

pub returns-then-is_none-clause-scanned : goal.returns-then-is_none-clause-scanned
returns-then-is_none-clause-scanned c = λ contents image less opens is header spaces was.
    let there = c.in-Err-DoubleSerial.ensures.double.0 (ap Err c.in-Err-DoubleSerial.field-0-is) in
    double_first contents c.args.slot c.args.self.now c.add.new.self there.0 image _ c.if-is_none.true c.is_none.ensures less opens is header there.1 was

pub returns-else-is_none-clause-scanned : goal.returns-else-is_none-clause-scanned
returns-else-is_none-clause-scanned c = λ contents image less opens is header spaces was.
    double_again contents c.args.slot c.args.self.now c.add.new.self image _ c.if-is_none.false c.is_none.ensures less opens is was

pub returns-in-Ok-clause-read : goal.returns-in-Ok-clause-read
returns-in-Ok-clause-read c = λ count within sound.
    one_more_read count c.args.self.now.catalog c.add.new.self
    (record { slot = c.args.slot; header = c.args.decoded.header; spaces = c.in_ok-placed.placed }) c.in-Ok.ensures.added c.in-Ok.ensures.no_others within
    (subst (IsTable c.args.decoded.header) (sym c.in_ok-placed.ensures) sound.table) sound.falls

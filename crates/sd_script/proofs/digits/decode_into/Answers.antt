-- Each pair adds its byte to those before it, or none is decoded.
use Rattle.std.proofs.Common.{arith, ◌*◌}
use Rattle.hex.proofs.Pairs.{decode_done, decode_start, decode_step}
use Rattle.sd_script.proofs.Pairs.{ok_from, unfit_from}
use Rattle.sd_script.proofs.digits.decode_into.Goals as goal

pub bytes-init : goal.bytes-init
bytes-init c = decode_start c.args.digits.now c.args.bytes.now

pub returns-in-None-clause-unfit : goal.returns-in-None-clause-unfit
returns-in-None-clause-unfit c = λ _.
    unfit_from c.args.digits.now c.bytes.bytes c.bytes.place (omega arith)
    (c.in-None.ensures (2 * c.bytes.place)) c.bytes.invariant

pub bytes-preserved : goal.bytes-preserved
bytes-preserved c =
    decode_step c.args.digits.now c.bytes.bytes c.bytes.place c.in-Some.byte (omega arith) (omega arith)
    (ok_from _ c.in-Some.byte (c.in-Some.ensures (2 * c.bytes.place))) c.bytes.invariant

pub returns-clause-decoded : goal.returns-clause-decoded
returns-clause-decoded c = λ _.
    decode_done c.args.digits.now c.bytes.bytes c.bytes.place (omega arith) (omega arith) c.bytes.invariant

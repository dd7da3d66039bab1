-- Each digit is read, or there is no number.
use Rattle.std.proofs.Common.{◌≡◌, ◌≤◌, ◌+◌, ◌*◌, ◌^◌, ◌∙◌, length, get_or, None, sym, subst, arith}
use Rattle.std.specs.Char.{digit_value}
use Rattle.sd_script.specs.Line.{numeral_of}
use Rattle.sd_script.proofs.Numerals.{Reads, large-more, numeral-unfit, numeral-large, numeral-read, reads-none, reads-more, some_digits}
use Rattle.sd_script.proofs.field_values.numeral.Goals.{then-value-radix-via-then-value-radix, then-value-radix-via-else-value-radix+then-number-most}
use Rattle.sd_script.proofs.field_values.numeral.Goals as goal

pub loop-byte-init : goal.loop-byte-init
loop-byte-init c = reads-none c.args.radix c.args.digits.now

pub returns-then-value-radix : goal.returns-then-value-radix
returns-then-value-radix c =
    let bs = c.args.digits.now in
    let i = c.loop-byte.byte-index in
    let value = c.digit-value.ensures.value in
    let none : numeral_of c.args.radix bs ≡ None = elim c.then-value-radix.branch [
      | then-value-radix-via-then-value-radix w ↦
          let unfit : c.args.radix ≤ digit_value (get_or bs i 0) = (let over = w.if-value-radix.true in omega arith) in
          numeral-unfit c.args.radix bs i c.loop-byte-test.true unfit
      | then-value-radix-via-else-value-radix+then-number-most w ↦
          let over = large-more c.args.radix c.loop-byte.number (let low = c.requires.low in omega arith) w.if-number-most.true in
          numeral-large c.args.radix bs i c.loop-byte.number c.loop-byte.invariant (let low = c.requires.low in omega arith) c.loop-byte-test.true (omega arith)
    ] in
    sym none

pub returns-in_err-number : goal.returns-in_err-number
returns-in_err-number c =
    let bs = c.args.digits.now in
    let i = c.loop-byte.byte-index in
    let value = c.digit-value.ensures.value in
    let below = c.if-value-radix.false in
    let is : c.digit-value.result ≡ digit_value (get_or bs i 0) = (let high = c.requires.high in omega arith) in
    let large : 2 ^ 64 ≤ c.loop-byte.number * c.args.radix + digit_value (get_or bs i 0) = (let over = c.in_err-number.ensures in omega arith) in
    let none = numeral-large c.args.radix bs i c.loop-byte.number c.loop-byte.invariant (let low = c.requires.low in omega arith) c.loop-byte-test.true large in
    c.from_residual.ensures ∙ sym none

pub loop-byte-preserved : goal.loop-byte-preserved
loop-byte-preserved c =
    let bs = c.args.digits.now in
    let i = c.loop-byte.byte-index in
    let value = c.digit-value.ensures.value in
    let below = c.if-value-radix.false in
    let is : c.digit-value.result ≡ digit_value (get_or bs i 0) = (let high = c.requires.high in omega arith) in
    let fits = c.in_ok-number.ensures.0 in
    let next : c.loop-byte.number * c.args.radix + digit_value (get_or bs i 0) ≡ c.in_ok-number.number = (let sum = c.in_ok-number.ensures.1 in omega arith) in
    subst (Reads c.args.radix bs (i + 1)) next
    (reads-more c.args.radix bs i c.loop-byte.number c.loop-byte.invariant c.loop-byte-test.true (omega arith) (omega arith))

pub returns : goal.returns
returns c =
    let bs = c.args.digits.now in
    let some = some_digits (length bs) c.if-is_empty.ensures in
    let at_end : c.loop-byte.byte-index ≡ length bs = (let le = c.loop-byte.auto.byte-index-end in let past = c.loop-byte-test.false in omega arith) in
    sym (numeral-read c.args.radix bs c.loop-byte.byte-index c.loop-byte.number c.loop-byte.invariant (omega arith) at_end)

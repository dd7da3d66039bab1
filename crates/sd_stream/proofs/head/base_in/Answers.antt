use Rattle.std.proofs.Common.{rules, ◌≡◌, ap, sym, ◌∙◌, arith}
use Rattle.sd_stream.specs.Stream.{number_text}
use Rattle.sd_stream.proofs.HeadLemmas.{base_read}
use Rattle.sd_stream.proofs.head.base_in.Goals as goal

pub returns-then-number-gt0-clause-base : goal.returns-then-number-gt0-clause-base
returns-then-number-gt0-clause-base c = (
  (c.if-number-gt0.true, omega arith, search rules),
  base_read c.args.text.now _ _ _ c.split_at.ensures.front c.split_at.ensures.back c.number_in-number.ensures (sym c.copy_from_slice.ensures.after),
)

pub returns-clause-base : goal.returns-clause-base
returns-clause-base c =
    let none : c.number_in-number.result ≡ 0 = omega (arith, c.if-number-gt0.false) in (
      tt,
      base_read c.args.text.now _ _ _ c.split_at.ensures.front c.split_at.ensures.back (c.number_in-number.ensures ∙ ap number_text none)
          (sym c.copy_from_slice.ensures.after ∙ c.are_same.ensures.yes (search rules)),
    )

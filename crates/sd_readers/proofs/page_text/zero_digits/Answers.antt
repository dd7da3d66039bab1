use Rattle.std.proofs.Common.{◌≡◌, ◌<◌, ◌+◌, ◌/◌, ◌^◌, ℕ, zero, suc, min, arith, sym, ◌∙◌, ap, subst}
use Rattle.std.specs.Int.Count.{count_leading_zeros, leading_of_zero}
use Rattle.std.proofs.lemmas.Nat.{leading_top}
use Rattle.sd_readers.specs.Digits.{IsZeroCount}
use Rattle.sd_readers.proofs.DigitLemmas.{zeros_counted, zeros_of_zero}
use Rattle.sd_readers.proofs.page_text.zero_digits.Goals as goal

counted : (n blank : ℕ) → n < 2 ^ 64 → blank ≡ min (count_leading_zeros 64 n / 4) 15 → IsZeroCount n blank
counted zero blank fits is = subst (IsZeroCount 0) (sym (is ∙ ap (λ k. min (k / 4) 15) (leading_of_zero 64))) zeros_of_zero
counted (suc m) blank fits is =
    let top = leading_top 64 (suc m) (omega arith) fits in
    let j : ℕ = top.0 in
    let sum = top.1 in
    let few : j < 64 = omega (arith, sum) in
    let count : blank + j / 4 ≡ 15 = omega (arith, is, sum) in
    zeros_counted (suc m) blank j top.2 top.3 (omega (arith, few)) count

pub returns : goal.returns
returns c = counted c.args.address c.min.result c.ranges.address.fits c.min.ensures

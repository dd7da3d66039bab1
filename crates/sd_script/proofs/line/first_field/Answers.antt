-- The first field ends where byte 32 is found, or it is the whole text.
use Rattle.std.proofs.Common.{◌≡◌, ◌+◌, ◌-◌, ◌∙◌, take, drop, ap, sym, arith}
use Rattle.std.specs.List.{position_or_len}
use Rattle.std.proofs.lemmas.Str.{lead_after_ascii}
use Rattle.sd_script.proofs.Fields.{is_space}
use Rattle.sd_script.proofs.Parsing.{no_space, space_at}
use Rattle.sd_script.proofs.line.first_field.Goals as goal

pub returns-in_err-end-clause-last : goal.returns-in_err-end-clause-last
returns-in_err-end-clause-last c =
    rw c.from_residual.ensures (no_space c.args.text.now (rw c.as_bytes.ensures.value at c.in_err-end.ensures))

pub range_from-requires : goal.range_from-requires
range_from-requires c = λ _.
    let at = space_at c.args.text.now c.in_ok-end.end (rw c.as_bytes.ensures.value at c.in_ok-end.ensures) in
    (omega (arith, at.1), λ more. lead_after_ascii c.args.text.now c.in_ok-end.end c.utf8.text (omega (arith, at.2)) more)

pub returns-clause-first : goal.returns-clause-first
returns-clause-first c =
    let text = c.args.text.now in
    let at = space_at text c.in_ok-end.end (rw c.as_bytes.ensures.value at c.in_ok-end.ensures) in
    let first : c.in_ok-end.end - 0 ≡ position_or_len is_space text = omega (arith, at.0) in (
      c.range.ensures.value ∙ ap (λ n. take n text) first,
      c.range_from.ensures.value ∙ ap (λ n. drop (n + 1) text) (sym at.0),
      omega (arith, at.0, at.1),
    )

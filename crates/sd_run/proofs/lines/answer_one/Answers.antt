-- The answer is printed, and flushed where a checkpoint is acknowledged.
use Rattle.std.proofs.Common.{rules, IfErr, OnOk}
use Rattle.std.proofs.KnownBytes.{Appends-kept}
use Rattle.sd_script.specs.Texts.{answer_line}
use Rattle.sd_run.proofs.LineLemmas.{always_on_ok, begins_still}
use Rattle.sd_run.specs.Ending.{IsUnprinted}
use Rattle.sd_run.proofs.StrictLemmas.{checked, unprinted_checks}
use Rattle.sd_run.proofs.lines.answer_one.Goals as goal

pub returns-in_err-flush_acked-clause-printed : goal.returns-in_err-flush_acked-clause-printed
returns-in_err-flush_acked-clause-printed g c =
    let given = c.answer-given.result in
    let from = g.W.Write.contents c.args.out.now.writer in
    let mid = g.W.Write.contents c.print_line.new.out.writer in
    let to = g.W.Write.contents c.flush_acked.new.out.writer in
    let ended = c.from_residual-in_err-flush_acked.result in
    let never : OnOk ended ⊥ = search rules in
    let unprinted : IfErr ended IsUnprinted = search rules in (
      given,
      c.answer-given.ensures.answered,
      search rules,
      begins_still from mid to (answer_line given) c.in_ok-print_line.ensures.begins c.in_err-flush_acked.ensures.bytes,
      unprinted_checks c.args.rule given ended from to never unprinted,
    )

pub returns-clause-printed : goal.returns-clause-printed
returns-clause-printed g c =
    let given = c.answer-given.result in
    let from = g.W.Write.contents c.args.out.now.writer in
    let mid = g.W.Write.contents c.print_line.new.out.writer in
    let to = g.W.Write.contents c.flush_acked.new.out.writer in
    let kept = c.in_ok-flush_acked.ensures.bytes in
    let printed = Appends-kept from mid to (answer_line given) c.in_ok-print_line.ensures.printed kept in (
      given,
      c.answer-given.ensures.answered,
      always_on_ok c.check.result printed,
      begins_still from mid to (answer_line given) c.in_ok-print_line.ensures.begins kept,
      checked c.args.rule given c.check.result from to printed c.check.ensures.ends c.check.ensures.passes,
    )

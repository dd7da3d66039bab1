-- The opening, and then the lines.
use Rattle.std.proofs.Common.{[], ◌∷◌, refl, sym, ap, subst, append-nil, inr, rules}
use Rattle.std.specs.List.{flat_map}
use Rattle.std.specs.Io.KnownBytes.{Appends}
use Rattle.std.proofs.KnownBytes.{Appends-nil, Appends-trans}
use Rattle.sd_script.specs.declared.line.Line.TheVariants as asked
use Rattle.sd_script.specs.Texts.{answer_line}
use Rattle.sd_run.specs.Strict.{Passes}
use Rattle.sd_run.specs.Whole.{PrintsLines}
use Rattle.sd_world.proofs.GoesOnLemmas.{goes_further}
use Rattle.sd_run.proofs.LineLemmas.{broken_off, tells_anyway, then_on_ok, told_behind}
use Rattle.sd_run.proofs.StrictLemmas.{ends_at, ends_before, passes_before}
use Rattle.sd_run.proofs.lines.answer_all.Goals as goal

pub returns-in_err-answer_one-clause-told : goal.returns-in_err-answer_one-clause-told
returns-in_err-answer_one-clause-told g c =
    let from = g.W.Write.contents c.args.out.now.writer in
    let one = c.answer_one.ensures.printed in
    record {
      some = record {
        done = asked.Reopen ∷ [];
        rest = c.args.lines.items;
        parts = refl;
        answers = one.0 ∷ [];
        answered = (c.answer_one.new.world, one.1, refl);
      };
      told = inr (broken_off from from (g.W.Write.contents c.answer_one.new.out.writer) [] one.0 (Appends-nil from) one.3);
    }

pub returns-clause-told : goal.returns-clause-told
returns-clause-told g c =
    let one = c.in_ok-answer_one.ensures.printed in
    let at = g.W.Write.contents c.answer_one.new.out.writer in
    let to = g.W.Write.contents c.print_all.new.out.writer in
    let all = PrintsLines g.D.Disk c.answer_one.new.world c.args.lines.items c.print_all.new.world at to in
    let others = tells_anyway g.D.Disk c.answer_one.new.world c.print_all.new.world c.args.lines.items at to c.print_all.result c.print_all.ensures.told
    (then_on_ok c.print_all.result ((lines : all) × Passes c.args.rule lines.answers) all (λ both. both.0) c.print_all.ensures.printed) in
    record {
      some = record {
        done = asked.Reopen ∷ others.some.done;
        rest = others.some.rest;
        parts = ap (λ lines. asked.Reopen ∷ lines) others.some.parts;
        answers = one.0 ∷ others.some.answers;
        answered = (c.answer_one.new.world, one.1, others.some.answered);
      };
      told = told_behind (g.W.Write.contents c.args.out.now.writer) (g.W.Write.contents c.answer_one.new.out.writer) (g.W.Write.contents c.print_all.new.out.writer)
          one.0 others.some.answers one.2 others.told;
    }

pub returns-clause-printed : goal.returns-clause-printed
returns-clause-printed g c =
    let first = c.args.world.now in
    let mid = c.answer_one.new.world in
    let last = c.print_all.new.world in
    let from = g.W.Write.contents c.args.out.now.writer in
    let at = g.W.Write.contents c.answer_one.new.out.writer in
    let to = g.W.Write.contents c.print_all.new.out.writer in
    let lines = c.args.lines.items in
    let one = c.in_ok-answer_one.ensures.printed in
    then_on_ok c.print_all.result ((all : PrintsLines g.D.Disk mid lines last at to) × Passes c.args.rule all.answers)
    ((all : PrintsLines g.D.Disk first (asked.Reopen ∷ lines) last from to) × Passes c.args.rule all.answers)
    (λ others. (
      record {
        answers = one.0 ∷ others.0.answers;
        answered = (mid, one.1, others.0.answered);
        printed = Appends-trans from at to (answer_line one.0) (flat_map answer_line others.0.answers) one.2 others.0.printed;
      },
      passes_before c.args.rule one.0 others.0.answers one.4.passes others.1,
    ))
    c.print_all.ensures.printed

pub returns-in_err-answer_one-clause-strict : goal.returns-in_err-answer_one-clause-strict
returns-in_err-answer_one-clause-strict g c = λ refused.
    let from = g.W.Write.contents c.args.out.now.writer in
    let one = c.answer_one.ensures.printed in
    let fails = one.4.fails (search rules) in
    record {
      some = record {
        done = asked.Reopen ∷ [];
        rest = c.args.lines.items;
        parts = refl;
        answers = one.0 ∷ [];
        answered = (c.answer_one.new.world, one.1, refl);
      };
      ends = ends_at c.args.rule [] one.0 (λ strict. tt) fails.0 fails.1;
      printed = subst (Appends from (g.W.Write.contents c.answer_one.new.out.writer)) (sym (append-nil (answer_line one.0))) fails.2;
    }

pub returns-clause-strict : goal.returns-clause-strict
returns-clause-strict g c = λ refused.
    let from = g.W.Write.contents c.args.out.now.writer in
    let at = g.W.Write.contents c.answer_one.new.out.writer in
    let to = g.W.Write.contents c.print_all.new.out.writer in
    let one = c.in_ok-answer_one.ensures.printed in
    let others = c.print_all.ensures.strict refused in
    record {
      some = record {
        done = asked.Reopen ∷ others.some.done;
        rest = others.some.rest;
        parts = ap (λ lines. asked.Reopen ∷ lines) others.some.parts;
        answers = one.0 ∷ others.some.answers;
        answered = (c.answer_one.new.world, one.1, others.some.answered);
      };
      ends = ends_before c.args.rule one.0 others.some.answers one.4.passes others.ends;
      printed = Appends-trans from at to (answer_line one.0) (flat_map answer_line others.some.answers) one.2 others.printed;
    }

pub returns-clause-goes_on : goal.returns-clause-goes_on
returns-clause-goes_on g c = goes_further g.D.Disk c.args.world.now c.answer_one.new.world c.print_all.new.world
    c.answer_one.ensures.goes_on c.print_all.ensures.goes_on

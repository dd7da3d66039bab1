-- A line more is answered and printed.
use Rattle.std.proofs.Common.{[], ◌∷◌, ◌++◌, ◌+◌, ◌∙◌, ◌≡◌, length, drop, refl, subst, inr, rules}
use Rattle.std.proofs.KnownBytes.{Appends-nil}
use Rattle.std.proofs.lemmas.Iterator.Adapters.{YieldsList-from_vec}
use Rattle.std.proofs.lemmas.Iterator.Consumers.{YieldsList-end, YieldsList-so_far, YieldsList-turn}
use Rattle.sd_world.proofs.GoesOnLemmas.{goes_further, goes_nowhere}
use Rattle.sd_run.specs.Lines.{AnswersLines}
use Rattle.sd_run.proofs.LineLemmas.{all_of_them, always_on_err, answers_more, broken_off, one_more, printed_more}
use Rattle.sd_run.proofs.StrictLemmas.{ends_at, passes_more}
use Rattle.sd_run.proofs.lines.print_all.Goals as goal

pub loop-line-init : goal.loop-line-init
loop-line-init g c = record {
  answers = [];
  answered = refl;
  printed = Appends-nil (g.W.Write.contents c.args.out.now.writer);
  passes = λ strict. tt;
  goes_on = goes_nowhere g.D.Disk c.args.world.now (g.met.D.Disk.only_now c.args.world.now.disk) c.sound.ensures.allowed;
}

pub loop-line-preserved : goal.loop-line-preserved
loop-line-preserved g c =
    let before = c.loop-line.invariant in
    let given = c.in_ok-answer_one.ensures.printed in
    record {
      answers = before.answers ++ given.0 ∷ [];
      answered = answers_more g.D.Disk c.args.world.now c.loop-line.world c.answer_one.new.world c.loop-line.yielded before.answers c.in-Some.line given.0
          before.answered given.1;
      printed = printed_more (g.W.Write.contents c.args.out.now.writer) (g.W.Write.contents c.loop-line.out.writer) (g.W.Write.contents c.answer_one.new.out.writer)
          before.answers given.0 before.printed given.2;
      passes = passes_more c.args.rule before.answers given.0 before.passes given.4.passes;
      goes_on = goes_further g.D.Disk c.args.world.now c.loop-line.world c.answer_one.new.world before.goes_on c.answer_one.ensures.goes_on;
    }

pub returns-clause-printed : goal.returns-clause-printed
returns-clause-printed g c =
    let all = c.loop-line.invariant in
    let items = c.args.lines.items in
    let begins = c.into_iter-line-iterator.ensures.into_iter_gives in
    let road = YieldsList-from_vec items begins.0 (begins.1 ∙ c.args.lines.ok.0) in
    let end = YieldsList-end road c.loop-line.yielded c.loop-line.line-iterator c.loop-line.yielded_by c.next.result c.next.new.self c.in-None.is c.next.ensures.steps in
    let same : c.loop-line.yielded ≡ items = all_of_them items c.loop-line.yielded end.0 in (
      record {
        answers = all.answers;
        answered = subst (λ lines. AnswersLines g.D.Disk c.args.world.now lines all.answers c.loop-line.world) same all.answered;
        printed = all.printed;
      },
      all.passes,
    )

pub returns-in_err-answer_one-clause-told : goal.returns-in_err-answer_one-clause-told
returns-in_err-answer_one-clause-told g c =
    let before = c.loop-line.invariant in
    let seen = c.loop-line.yielded in
    let all = c.args.lines.items in
    let line = c.in-Some.line in
    let begins = c.into_iter-line-iterator.ensures.into_iter_gives in
    let road = YieldsList-from_vec all begins.0 (begins.1 ∙ c.args.lines.ok.0) in
    let front = YieldsList-so_far road seen c.loop-line.line-iterator c.loop-line.yielded_by in
    let turn = YieldsList-turn road seen c.loop-line.line-iterator c.loop-line.yielded_by c.next.result c.next.new.self line c.in-Some.is c.next.ensures.steps in
    let one = c.answer_one.ensures.printed in
    always_on_err c.from_residual.result (record {
      some = record {
        done = seen ++ line ∷ [];
        rest = drop (length seen + 1) all;
        parts = one_more all seen line front turn.0 turn.1;
        answers = before.answers ++ one.0 ∷ [];
        answered = answers_more g.D.Disk c.args.world.now c.loop-line.world c.answer_one.new.world seen before.answers line one.0 before.answered one.1;
      };
      told = inr (broken_off (g.W.Write.contents c.args.out.now.writer) (g.W.Write.contents c.loop-line.out.writer) (g.W.Write.contents c.answer_one.new.out.writer)
          before.answers one.0 before.printed one.3);
    })

pub returns-in_err-answer_one-clause-strict : goal.returns-in_err-answer_one-clause-strict
returns-in_err-answer_one-clause-strict g c = λ refused.
    let before = c.loop-line.invariant in
    let seen = c.loop-line.yielded in
    let all = c.args.lines.items in
    let line = c.in-Some.line in
    let begins = c.into_iter-line-iterator.ensures.into_iter_gives in
    let road = YieldsList-from_vec all begins.0 (begins.1 ∙ c.args.lines.ok.0) in
    let front = YieldsList-so_far road seen c.loop-line.line-iterator c.loop-line.yielded_by in
    let turn = YieldsList-turn road seen c.loop-line.line-iterator c.loop-line.yielded_by c.next.result c.next.new.self line c.in-Some.is c.next.ensures.steps in
    let one = c.answer_one.ensures.printed in
    let fails = one.4.fails (search rules) in
    record {
      some = record {
        done = seen ++ line ∷ [];
        rest = drop (length seen + 1) all;
        parts = one_more all seen line front turn.0 turn.1;
        answers = before.answers ++ one.0 ∷ [];
        answered = answers_more g.D.Disk c.args.world.now c.loop-line.world c.answer_one.new.world seen before.answers line one.0 before.answered one.1;
      };
      ends = ends_at c.args.rule before.answers one.0 before.passes fails.0 fails.1;
      printed = printed_more (g.W.Write.contents c.args.out.now.writer) (g.W.Write.contents c.loop-line.out.writer) (g.W.Write.contents c.answer_one.new.out.writer)
          before.answers one.0 before.printed fails.2;
    }

pub returns-in_err-answer_one-clause-goes_on : goal.returns-in_err-answer_one-clause-goes_on
returns-in_err-answer_one-clause-goes_on g c = goes_further g.D.Disk c.args.world.now c.loop-line.world c.answer_one.new.world
    c.loop-line.invariant.goes_on c.answer_one.ensures.goes_on

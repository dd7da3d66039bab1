use Rattle.sd_readers.specs.declared.steady.Reader.TheVariants.{Restore}
use Rattle.sd_readers.proofs.AnswerLemmas.{answers, told_of, empty_of, text_of, whole_of}
use Rattle.std.proofs.Common.{refl}
use Rattle.sd_readers.proofs.MemoryTexts.{exact_memory}
use Rattle.sd_readers.proofs.RestoredLemmas.{restores_as}
use Rattle.sd_readers.proofs.restore.restore_to.Goals as goal

pub returns-clause-answers : goal.returns-clause-answers
returns-clause-answers g c =
    let done = c.print_steady-ended in
    answers Restore (g.D.Disk.is_honest done.new.disk) (g.D.Disk.contents c.args.disk.now) (g.D.Disk.failed c.args.disk.now) (g.D.Disk.failed done.new.disk) (g.W.Write.contents c.args.out.now.writer) (g.W.Write.contents c.exit.new.out.writer)
    c.exit.new.out.refused c.exit.result done.result (g.W.Write.contents done.new.out.writer) done.new.out.refused done.ensures.store done.ensures.writer c.exit.ensures.kept c.exit.ensures.exits

pub returns-clause-text : goal.returns-clause-text
returns-clause-text g c = λ honest zero. text_of Restore _ _ _ _ _ _ _ _ (returns-clause-answers g c) honest zero

pub returns-clause-whole : goal.returns-clause-whole
returns-clause-whole g c = whole_of Restore _ _ _ _ _ _ _ _ (returns-clause-answers g c)

pub returns-clause-shown : goal.returns-clause-shown
returns-clause-shown g c = λ honest zero. let is = returns-clause-text g c honest zero in (is.moment, is.shows)

pub returns-clause-told : goal.returns-clause-told
returns-clause-told g c = told_of Restore _ _ _ _ _ _ _ _ (returns-clause-answers g c)

pub returns-clause-empty : goal.returns-clause-empty
returns-clause-empty g c = λ honest three. (empty_of Restore _ _ _ _ _ _ _ _ (returns-clause-answers g c) honest three).1

pub returns-clause-exact : goal.returns-clause-exact
returns-clause-exact g c = λ honest zero moment shows.
    exact_memory c.shown_once.ensures (g.D.Disk.contents c.args.disk.now) (g.W.Write.contents c.args.out.now.writer) (g.W.Write.contents c.exit.new.out.writer)
    (returns-clause-text g c honest zero) moment shows

pub returns-clause-restored : goal.returns-clause-restored
returns-clause-restored g c = λ shown honest shows.
    let done = c.print_steady-ended in
    let failed = g.D.Disk.failed c.args.disk.now in
    let now = g.D.Disk.failed done.new.disk in
    let from = g.W.Write.contents c.args.out.now.writer in
    let to = g.W.Write.contents done.new.out.writer in
    record {
      ended = done.result;
      printed = to;
      restores = restores_as c.shown_once.ensures (g.D.Disk.contents c.args.disk.now) shown failed now from to done.result shows
          (done.ensures.store.text honest) (done.ensures.store.why honest) (done.ensures.good honest refl shown shows);
      exits = c.exit.ensures.exits;
    }

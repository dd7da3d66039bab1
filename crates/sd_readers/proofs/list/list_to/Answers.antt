use Rattle.std.proofs.Common.{◌≡◌, ◌≢◌, refl}
use Rattle.sd_readers.specs.declared.steady.Reader.TheVariants.{Restore, List}
use Rattle.sd_readers.proofs.AnswerLemmas.{answers, text_of, whole_of}
use Rattle.sd_exit.proofs.EndingLemmas.{at_most_one, came_to_its_end}
use Rattle.sd_readers.proofs.list.list_to.Goals as goal

pub returns-clause-answers : goal.returns-clause-answers
returns-clause-answers g c =
    let done = c.print_steady-ended in
    answers List (g.D.Disk.is_honest done.new.disk) (g.D.Disk.contents c.args.disk.now) (g.D.Disk.failed c.args.disk.now) (g.D.Disk.failed done.new.disk) (g.W.Write.contents c.args.out.now.writer) (g.W.Write.contents c.exit.new.out.writer)
    c.exit.new.out.refused c.exit.result done.result (g.W.Write.contents done.new.out.writer) done.new.out.refused done.ensures.store done.ensures.writer c.exit.ensures.kept c.exit.ensures.exits

pub returns-clause-text : goal.returns-clause-text
returns-clause-text g c = λ honest zero. text_of List _ _ _ _ _ _ _ _ (returns-clause-answers g c) honest zero

pub returns-clause-whole : goal.returns-clause-whole
returns-clause-whole g c = whole_of List _ _ _ _ _ _ _ _ (returns-clause-answers g c)

some : List ≢ Restore
some e = absurd (let f : List ≡ Restore = e in cc)

pub returns-clause-status : goal.returns-clause-status
returns-clause-status g c =
    let done = c.print_steady-ended in
    at_most_one (g.W.Write.contents done.new.out.writer) (g.W.Write.contents c.exit.new.out.writer) c.exit.new.out.refused c.exit.result
    done.result c.exit.ensures.exits (done.ensures.stopped some)

pub returns-clause-readable : goal.returns-clause-readable
returns-clause-readable g c = λ honest zero.
    let done = c.print_steady-ended in
    came_to_its_end (g.W.Write.contents done.new.out.writer) (g.W.Write.contents c.exit.new.out.writer) c.exit.new.out.refused c.exit.result done.result c.exit.ensures.exits
    (done.ensures.readable honest refl) zero

use Rattle.std.proofs.Common.{inl, sym, subst}
use Rattle.sd_readers.specs.declared.steady.Reader.{Reader}
use Rattle.sd_readers.specs.Reading.{ReadsStore}
use Rattle.sd_exit.proofs.EndingLemmas.{on_fault}
use Rattle.sd_readers.proofs.steady.print_by.Goals as goal

pub returns-in-Restore-clause-store : goal.returns-in-Restore-clause-store
returns-in-Restore-clause-store g c =
    let done = c.print_restored in
    subst (λ (by : Reader). ReadsStore by (g.D.Disk.is_honest done.new.disk) (g.D.Disk.contents c.args.disk.now) (g.D.Disk.failed c.args.disk.now) (g.D.Disk.failed done.new.disk) done.result (g.W.Write.contents c.args.out.now.writer) (g.W.Write.contents done.new.out.writer))
    (sym c.in-Restore.is) (record {
      text = done.ensures.text;
      begins = done.ensures.begins;
      alone = done.ensures.alone;
      why = done.ensures.why;
    })

pub returns-in-List-clause-store : goal.returns-in-List-clause-store
returns-in-List-clause-store g c =
    let done = c.print_list in
    subst (λ (by : Reader). ReadsStore by (g.D.Disk.is_honest done.new.disk) (g.D.Disk.contents c.args.disk.now) (g.D.Disk.failed c.args.disk.now) (g.D.Disk.failed done.new.disk) done.result (g.W.Write.contents c.args.out.now.writer) (g.W.Write.contents done.new.out.writer))
    (sym c.in-List.is) (record {
      text = done.ensures.text;
      begins = λ honest. on_fault done.result (λ kept. inl kept) done.ensures.none;
      alone = done.ensures.alone;
      why = done.ensures.why;
    })

pub returns-in-Verify-clause-store : goal.returns-in-Verify-clause-store
returns-in-Verify-clause-store g c =
    let done = c.print_report in
    subst (λ (by : Reader). ReadsStore by (g.D.Disk.is_honest done.new.disk) (g.D.Disk.contents c.args.disk.now) (g.D.Disk.failed c.args.disk.now) (g.D.Disk.failed done.new.disk) done.result (g.W.Write.contents c.args.out.now.writer) (g.W.Write.contents done.new.out.writer))
    (sym c.in-Verify.is) (record {
      text = done.ensures.text;
      begins = λ honest. on_fault done.result (λ kept. inl kept) done.ensures.none;
      alone = done.ensures.alone;
      why = done.ensures.why;
    })

pub returns-in-Restore-clause-good : goal.returns-in-Restore-clause-good
returns-in-Restore-clause-good g c = λ honest is shown shows. c.print_restored.ensures.good honest shown shows

use Rattle.std.proofs.Common.{sym, subst}
use Rattle.std.specs.Prelude.{OnOk}
use Rattle.sd_readers.specs.declared.at.ReaderAt.{ReaderAt}
use Rattle.sd_readers.specs.At.{PrintsAt}
use Rattle.sd_readers.proofs.at.print_by.Goals as goal

pub returns-in-Restore-clause-text : goal.returns-in-Restore-clause-text
returns-in-Restore-clause-text g c = λ honest.
    let done = c.print_restored_at in
    subst (λ (by : ReaderAt). OnOk done.result (PrintsAt by (g.D.Disk.contents c.args.disk.now) c.args.number (g.W.Write.contents c.args.out.now.writer) (g.W.Write.contents done.new.out.writer)))
    (sym c.in-Restore.is) (done.ensures.text honest)

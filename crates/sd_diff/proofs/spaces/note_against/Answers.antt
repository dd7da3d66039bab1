use Rattle.std.proofs.Common.{◌+◌, OnOk, Some, sym, subst}
use Rattle.sd_diff.specs.Difference.{AddsWritten}
use Rattle.sd_diff.specs.Held.{held_in}
use Rattle.sd_diff.proofs.PageLemmas.{none_after_written}
use Rattle.sd_diff.proofs.spaces.note_against.Goals as goal

pub returns-in-None-clause-adds : goal.returns-in-None-clause-adds
returns-in-None-clause-adds g c = λ honest.
    none_after_written (g.D.Disk.contents c.args.disk.now) c.args.pages.now.space c.args.pages.now.first (c.args.pages.now.first + c.args.pages.now.count)
    (Some c.args.old.now) c.args.new.now.run c.args.written.now.items c.in-None.is

pub returns-in-Some-clause-adds : goal.returns-in-Some-clause-adds
returns-in-Some-clause-adds g c = λ honest.
    subst (λ o. OnOk c.note_bytes.result (AddsWritten (g.D.Disk.contents c.args.disk.now) c.args.pages.now.space c.args.pages.now.first (c.args.pages.now.first + c.args.pages.now.count)
    (held_in (Some c.args.old.now)) (held_in o) c.args.written.now.items c.note_bytes.new.written.items)) (sym c.in-Some.is) (c.note_bytes.ensures.adds honest)

use Rattle.std.proofs.Common.{◌+◌, OnOk, sym, subst}
use Rattle.sd_diff.specs.Difference.{AddsWritten}
use Rattle.sd_diff.specs.Held.{held_in}
use Rattle.sd_diff.proofs.PageLemmas.{none_before_written}
use Rattle.sd_diff.proofs.spaces.note_written.Goals as goal

pub returns-in-None-clause-adds : goal.returns-in-None-clause-adds
returns-in-None-clause-adds g c = λ honest.
    none_before_written (g.D.Disk.contents c.args.disk.now) c.args.pages.now.space c.args.pages.now.first (c.args.pages.now.first + c.args.pages.now.count)
    c.args.old.now.run c.args.new.now.run c.args.written.now.items c.in-None.is

pub returns-in-Some-clause-adds : goal.returns-in-Some-clause-adds
returns-in-Some-clause-adds g c = λ honest.
    subst (λ o. OnOk c.note_against.result (AddsWritten (g.D.Disk.contents c.args.disk.now) c.args.pages.now.space c.args.pages.now.first (c.args.pages.now.first + c.args.pages.now.count)
    (held_in o) (held_in c.args.new.now.run) c.args.written.now.items c.note_against.new.written.items)) (sym c.in-Some.is) (c.note_against.ensures.adds honest)

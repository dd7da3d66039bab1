use Rattle.std.proofs.Common.{nat_eq, sym, ◌∙◌, subst}
use Rattle.std.specs.Io.KnownBytes.{Appends}
use Rattle.std.proofs.KnownBytes.{Appends-nil}
use Rattle.std.proofs.lemmas.Bool.{not-false, not-true}
use Rattle.sd_exit.specs.Ending.{OnFault}
use Rattle.sd_exit.specs.Texts.{PrintsBeginning}
use Rattle.sd_readers.proofs.PageLemmas.{lines_apart, lines_of_zeros, lines_within, same_printed}
use Rattle.sd_readers.proofs.restore.print_in_space.Goals as goal

pub returns-then-ne-clause-text : goal.returns-then-ne-clause-text
returns-then-ne-clause-text g c = λ honest.
    let from = g.W.Write.contents c.args.out.now.writer in
    let apart = not-true (nat_eq c.args.run.now.space c.args.space) (sym c.ne.ensures ∙ c.if-ne.true) in
    subst (Appends from from) (sym (lines_apart (g.D.Disk.contents c.args.disk.now) c.args.space c.args.run.now apart)) (Appends-nil from)

pub returns-in-Zero-clause-text : goal.returns-in-Zero-clause-text
returns-in-Zero-clause-text g c = λ honest.
    let from = g.W.Write.contents c.args.out.now.writer in
    subst (Appends from from) (sym (lines_of_zeros (g.D.Disk.contents c.args.disk.now) c.args.space c.args.run.now c.in-Zero.is)) (Appends-nil from)

pub returns-in-Data-clause-text : goal.returns-in-Data-clause-text
returns-in-Data-clause-text g c = λ honest.
    let within = not-false (nat_eq c.args.run.now.space c.args.space) (sym c.ne.ensures ∙ c.if-ne.false) in
    same_printed c.print_run.result (g.W.Write.contents c.args.out.now.writer) (g.W.Write.contents c.print_run.new.out.writer) _ _
    (sym (lines_within (g.D.Disk.contents c.args.disk.now) c.args.space c.args.run.now within)) (c.print_run.ensures.text honest)

pub returns-in-Data-clause-begins : goal.returns-in-Data-clause-begins
returns-in-Data-clause-begins g c = λ honest.
    let within = not-false (nat_eq c.args.run.now.space c.args.space) (sym c.ne.ensures ∙ c.if-ne.false) in
    subst (λ text. OnFault c.print_run.result (PrintsBeginning (g.W.Write.contents c.args.out.now.writer) (g.W.Write.contents c.print_run.new.out.writer) text))
    (sym (lines_within (g.D.Disk.contents c.args.disk.now) c.args.space c.args.run.now within)) (c.print_run.ensures.begins honest)

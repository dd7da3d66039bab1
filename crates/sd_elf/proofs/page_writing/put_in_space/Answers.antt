use Rattle.std.proofs.Common.{nat_eq, true, false, sym, ◌∙◌, subst}
use Rattle.std.specs.Io.KnownBytes.{Appends}
use Rattle.std.proofs.KnownBytes.{Appends-nil}
use Rattle.std.proofs.lemmas.Bool.{not-false, not-true}
use Rattle.sd_elf.proofs.PageLemmas.{bytes_apart, bytes_within, same_written}
use Rattle.sd_elf.proofs.page_writing.put_in_space.Goals as goal

pub returns-then-ne-clause-text : goal.returns-then-ne-clause-text
returns-then-ne-clause-text g c = λ honest.
    let from = g.O.CoreOutput.contents c.args.out.now in
    let apart = not-true (nat_eq c.args.run.now.space c.args.space) (sym c.ne.ensures ∙ c.if-ne.true) in
    subst (Appends from from) (sym (bytes_apart (g.D.Disk.contents c.args.disk.now) c.args.space c.args.run.now apart)) (Appends-nil from)

pub returns-clause-text : goal.returns-clause-text
returns-clause-text g c = λ honest.
    let within = not-false (nat_eq c.args.run.now.space c.args.space) (sym c.ne.ensures ∙ c.if-ne.false) in
    same_written c.put_run.result (g.O.CoreOutput.contents c.args.out.now) (g.O.CoreOutput.contents c.put_run.new.out) _ _
    (sym (bytes_within (g.D.Disk.contents c.args.disk.now) c.args.space c.args.run.now within)) (c.put_run.ensures.text honest)

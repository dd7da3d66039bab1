use Rattle.std.proofs.Common.{ap, ◌∙◌, sym}
use Rattle.sd_tables.specs.declared.entry.Entry.{Entry}
use Rattle.sd_pagetable.specs.Page.{fresh_page}
use Rattle.sd_pagetable.specs.Contents.{Contents, put_page}
use Rattle.sd_pagetable.specs.View.{page_of_entry, contents_of}
use Rattle.sd_pagetable.proofs.TableLemmas.{not_none}
use Rattle.sd_pagetable.proofs.ViewLemmas.{none_there}
use Rattle.sd_pagetable.proofs.KeptLemmas.{frame_counted}
use Rattle.sd_pagetable.proofs.ReleaseLemmas.{kept_renewed, view_renewed}
use Rattle.sd_pagetable.proofs.paging.Paging.renew.Goals as goal

pub release-requires : goal.release-requires
release-requires c = λ frame is. frame_counted c.self.inside.frames c.self.inside.tables c.self.inside.mapped c.args.space c.args.page c.in-Some.entry frame c.self.invariant (sym c.in-Some.ensures) is

pub invariant_of-self : goal.invariant_of-self
invariant_of-self c = rw c.replace.ensures (kept_renewed c.self.inside.frames c.release.new.frames c.self.inside.tables c.self.inside.mapped c.args.space c.args.page c.in-Some.entry c.self.invariant (sym c.in-Some.ensures) c.release.ensures c.fresh.result (ap (λ (e : Entry). e.frame) c.fresh.ensures) (ap (λ (e : Entry). e.writable) c.fresh.ensures))

pub returns : goal.returns
returns c = ap (contents_of c.release.new.frames) c.replace.ensures ∙ view_renewed c.self.inside.frames c.release.new.frames c.self.inside.tables c.self.inside.mapped c.args.space c.args.page c.in-Some.entry c.self.invariant (sym c.in-Some.ensures) c.release.ensures c.fresh.result
    ∙ ap (λ (e : Entry). put_page (contents_of c.self.inside.frames c.self.inside.tables) c.args.space c.args.page (page_of_entry c.release.new.frames e)) c.fresh.ensures
    ∙ ap (λ (m : Contents). put_page m c.args.space c.args.page (fresh_page c.args.prot)) c.self.view_is

pub returns-in_default : goal.returns-in_default
returns-in_default c = absurd (not_none _ (none_there c.self.inside.frames c.self.inside.tables c.args.self.now c.args.space c.args.page c.self.view_is (sym c.in_default.ensures)) c.requires)

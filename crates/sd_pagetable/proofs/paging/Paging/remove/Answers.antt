use Rattle.std.proofs.Common.{ap, ◌∙◌, sym, arith}
use Rattle.sd_pagetable.specs.Contents.{Contents, remove_page}
use Rattle.sd_pagetable.specs.View.{contents_of}
use Rattle.sd_pagetable.proofs.TableLemmas.{not_none, some_of}
use Rattle.sd_pagetable.proofs.ViewLemmas.{none_there, alive_at_view}
use Rattle.sd_pagetable.proofs.KeptLemmas.{frame_counted}
use Rattle.sd_pagetable.proofs.ReleaseLemmas.{view_removed, kept_removed}
use Rattle.sd_pagetable.proofs.paging.Paging.remove.Goals as goal

pub take-requires : goal.take-requires
take-requires c = grind (arith, some_of, alive_at_view)

pub release-requires : goal.release-requires
release-requires c = λ frame is. frame_counted c.self.inside.frames c.self.inside.tables c.self.inside.mapped c.args.space c.args.page c.in-Some.entry frame c.self.invariant (sym c.take.ensures.entry ∙ c.in-Some.is) is

pub overflow_sub-self : goal.overflow_sub-self
overflow_sub-self c = (kept_removed c.self.inside.frames c.release.new.frames c.self.inside.tables c.self.inside.mapped c.args.space c.args.page c.in-Some.entry c.self.invariant (sym c.take.ensures.entry ∙ c.in-Some.is) c.release.ensures).0

pub invariant_of-self-2 : goal.invariant_of-self-2
invariant_of-self-2 c = rw c.take.ensures.taken (kept_removed c.self.inside.frames c.release.new.frames c.self.inside.tables c.self.inside.mapped c.args.space c.args.page c.in-Some.entry c.self.invariant (sym c.take.ensures.entry ∙ c.in-Some.is) c.release.ensures).1

pub returns : goal.returns
returns c = ap (contents_of c.release.new.frames) c.take.ensures.taken ∙ view_removed c.self.inside.frames c.release.new.frames c.self.inside.tables c.self.inside.mapped c.args.space c.args.page c.in-Some.entry c.self.invariant (sym c.take.ensures.entry ∙ c.in-Some.is) c.release.ensures ∙ ap (λ (m : Contents). remove_page m c.args.space c.args.page) c.self.view_is

pub returns-in_default : goal.returns-in_default
returns-in_default c = absurd (not_none _ (none_there c.self.inside.frames c.self.inside.tables c.args.self.now c.args.space c.args.page c.self.view_is (sym c.take.ensures.entry ∙ c.in_default.is)) c.requires)

pub invariant_of-self : goal.invariant_of-self
invariant_of-self c = absurd (not_none _ (none_there c.self.inside.frames c.self.inside.tables c.args.self.now c.args.space c.args.page c.self.view_is (sym c.take.ensures.entry ∙ c.in_default.is)) c.requires)

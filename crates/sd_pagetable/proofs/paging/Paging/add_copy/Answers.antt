use Rattle.std.proofs.Common.{◌≡◌, ◌+◌, sym, ap, ◌∙◌, arith, subst}
use Rattle.std.specs.FinMap as finmap
use Rattle.sd_pagetable.specs.Nested.{inside, is_alive}
use Rattle.sd_pagetable.specs.Contents.{Contents, page_count}
use Rattle.sd_pagetable.specs.View.{IsKept}
use Rattle.sd_pagetable.proofs.CopyLemmas.{copy_len, view_copied, kept_copied}
use Rattle.sd_pagetable.proofs.paging.Paging.add_copy.Goals as goal

pub overflow_add-self : goal.overflow_add-self
overflow_add-self c = grind (arith, copy_len)

pub invariant_of-self-2 : goal.invariant_of-self-2
invariant_of-self-2 c =
    let ok = c.in_ok-add_copy.ensures in
    let counted : c.self.inside.mapped ≡ page_count c.args.self.now.spaces = c.self.invariant.mapped ∙ ap (λ (m : Contents). page_count m.spaces) c.self.view_is in
    let len = copy_len c.self.inside.frames c.self.inside.tables c.add_copy.new.self c.args.space c.args.child ok.pages ok.others ∙ ap (λ (m : Contents). finmap.len (inside m.spaces c.args.space)) c.self.view_is in
    let few = c.requires.few in
    subst (λ k. IsKept c.self.inside.frames c.add_copy.new.self (c.self.inside.mapped + k)) (sym c.pages_in.ensures)
    (kept_copied c.self.inside.frames c.self.inside.tables c.add_copy.new.self c.args.space c.args.child ok.pages ok.others c.self.inside.mapped c.self.invariant
    (ap (λ (m : Contents). is_alive m.spaces c.args.child) c.self.view_is ∙ c.requires.fresh) c.requires.least c.requires.greatest (omega (arith, counted, len, few)))

pub returns-clause-ok : goal.returns-clause-ok
returns-clause-ok c = view_copied c.self.inside.frames c.self.inside.tables c.add_copy.new.self c.args.space c.args.child c.in_ok-add_copy.ensures.pages c.in_ok-add_copy.ensures.others c.args.self.now c.self.view_is

use Rattle.std.proofs.Common.{◌≡◌, ap, ◌∙◌, sym, true, false}
use Rattle.std.proofs.lemmas.Bool.{cond-true, cond-false}
use Rattle.sd_areas.specs.Pages.{page_of}
use Rattle.sd_pagetable.specs.Nested.{value_at}
use Rattle.sd_pagetable.specs.Contents.{Contents, page_at, plain_of}
use Rattle.sd_pagetable.specs.Access.{allows}
use Rattle.sd_pagetable.specs.RefusalOrder.{page_refusal}
use Rattle.sd_tables.specs.declared.entry.Entry.{Entry}
use Rattle.sd_pagetable.proofs.MemoryLemmas.{page_of_seen, due_none, due_some}
use Rattle.sd_pagetable.proofs.memory.Memory.permitted.Goals as goal

pub returns-in_default-clause-refused : goal.returns-in_default-clause-refused
returns-in_default-clause-refused c = due_none c.args.self.now c.args.space (page_of c.args.address) c.args.need (ap (λ (m : Contents). page_at m c.args.space (page_of c.args.address)) (sym c.self.view_is) ∙ c.in_default.ensures.none)

pub returns-then-allows-clause-ok : goal.returns-then-allows-clause-ok
returns-then-allows-clause-ok c =
    let x = page_of_seen c.self.inside.paging c.args.space (page_of c.args.address) c.in-Some.found.1 c.in-Some.ensures.found.1 in
    let allowed : allows c.args.need x.0.prot ≡ true = ap (λ (e : Entry). allows c.args.need e.prot) x.2 ∙ sym c.allows.ensures ∙ c.if-allows.true in
    ap (λ (m : Contents). page_refusal c.args.need (value_at (plain_of m) c.args.space (page_of c.args.address))) (sym c.self.view_is)
    ∙ due_some c.self.inside.paging c.args.space (page_of c.args.address) c.args.need x.0 x.1 ∙ cond-true _ _ _ allowed

pub returns-else-allows-clause-refused : goal.returns-else-allows-clause-refused
returns-else-allows-clause-refused c =
    let x = page_of_seen c.self.inside.paging c.args.space (page_of c.args.address) c.in-Some.found.1 c.in-Some.ensures.found.1 in
    let refused : allows c.args.need x.0.prot ≡ false = ap (λ (e : Entry). allows c.args.need e.prot) x.2 ∙ sym c.allows.ensures ∙ c.if-allows.false in
    ap (λ (m : Contents). page_refusal c.args.need (value_at (plain_of m) c.args.space (page_of c.args.address))) (sym c.self.view_is)
    ∙ due_some c.self.inside.paging c.args.space (page_of c.args.address) c.args.need x.0 x.1 ∙ cond-false _ _ _ refused

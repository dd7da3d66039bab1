use Rattle.std.proofs.Common.{◌≡◌, ◌+◌, ◌-◌, ap, ◌∙◌, sym, subst, arith}
use Rattle.sd_tables.specs.declared.entry.Entry.{Entry}
use Rattle.sd_pagetable.specs.Nested.{is_alive}
use Rattle.sd_pagetable.specs.Contents.{Contents, page_count}
use Rattle.sd_pagetable.specs.View.{page_of_entry, IsKept}
use Rattle.sd_pagetable.proofs.NestedLemmas.{alive-map}
use Rattle.sd_pagetable.proofs.RunKept.{kept_filled, view_filled, hole_there}
use Rattle.sd_pagetable.proofs.paging.Paging.fill_run.Goals as goal

pub fill_run-requires-clause-alive : goal.fill_run-requires-clause-alive
fill_run-requires-clause-alive c = sym (alive-map (page_of_entry c.self.inside.frames) c.self.inside.tables c.args.space) ∙ ap (λ (m : Contents). is_alive m.spaces c.args.space) c.self.view_is ∙ c.requires.alive

pub invariant_of-self-2 : goal.invariant_of-self-2
invariant_of-self-2 c =
    let alive = sym (alive-map (page_of_entry c.self.inside.frames) c.self.inside.tables c.args.space) ∙ ap (λ (m : Contents). is_alive m.spaces c.args.space) c.self.view_is ∙ c.requires.alive in
    let ok = c.in_ok-reached.ensures in
    let counted : c.self.inside.mapped ≡ page_count c.args.self.now.spaces = c.self.invariant.mapped ∙ ap (λ (m : Contents). page_count m.spaces) c.self.view_is in
    let end = ok.end in
    let limit = c.requires.within in
    let few = c.requires.few in
    subst (λ k. IsKept c.self.inside.frames c.fill_run.new.self (c.self.inside.mapped + (c.in_ok-reached.reached - k))) (sym c.number-from.ensures.value)
    (kept_filled c.fresh.result c.self.inside.frames c.self.inside.tables c.fill_run.new.self c.self.inside.mapped c.args.space c.args.first c.in_ok-reached.reached ok.reached alive ok.run ok.others c.self.invariant
    (omega (arith, end, limit)) (omega (arith, counted, few, end)) (ap (λ (e : Entry). e.frame) c.fresh.ensures) (ap (λ (e : Entry). e.writable) c.fresh.ensures))

pub returns-clause-more : goal.returns-clause-more
returns-clause-more c = λ none. c.in_ok-reached.ensures.more (hole_there c.self.inside.frames c.self.inside.tables c.args.self.now c.args.space c.args.first c.self.view_is none)

pub returns-clause-value : goal.returns-clause-value
returns-clause-value c = grind (arith, alive-map, view_filled)

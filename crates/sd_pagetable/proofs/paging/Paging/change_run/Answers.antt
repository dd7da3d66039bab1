use Rattle.std.proofs.Common.{ap, ◌∙◌, sym, arith}
use Rattle.sd_pagetable.specs.Nested.{is_alive}
use Rattle.sd_pagetable.specs.Contents.{Contents}
use Rattle.sd_pagetable.specs.View.{page_of_entry}
use Rattle.sd_pagetable.proofs.NestedLemmas.{alive-map}
use Rattle.sd_pagetable.proofs.RunKept.{changed_there, page_there, kept_run, view_run}
use Rattle.sd_pagetable.proofs.paging.Paging.change_run.Goals as goal

pub change_run-requires-clause-alive : goal.change_run-requires-clause-alive
change_run-requires-clause-alive c = sym (alive-map (page_of_entry c.self.inside.frames) c.self.inside.tables c.args.space) ∙ ap (λ (m : Contents). is_alive m.spaces c.args.space) c.self.view_is ∙ c.requires.alive

pub invariant_of-self : goal.invariant_of-self
invariant_of-self c =
    let alive = sym (alive-map (page_of_entry c.self.inside.frames) c.self.inside.tables c.args.space) ∙ ap (λ (m : Contents). is_alive m.spaces c.args.space) c.self.view_is ∙ c.requires.alive in
    kept_run c.args.change c.self.inside.frames c.self.inside.tables c.change_run.new.self c.self.inside.mapped c.args.space c.args.first c.change_run.result c.change_run.ensures.reached alive c.change_run.ensures.run c.change_run.ensures.others c.self.invariant

pub returns-clause-mapped : goal.returns-clause-mapped
returns-clause-mapped c = λ page l m. page_there c.self.inside.frames c.self.inside.tables c.args.self.now c.args.space page c.self.view_is (changed_there c.args.change _ _ c.args.first c.change_run.result page c.change_run.ensures.run l m)

pub returns-clause-value : goal.returns-clause-value
returns-clause-value c = grind (arith, alive-map, view_run)

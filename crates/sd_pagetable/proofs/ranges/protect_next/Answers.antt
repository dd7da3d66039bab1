use Rattle.std.proofs.Common.{rules, ◌≡◌, ◌∙◌, arith}
use Rattle.sd_pagetable.specs.Page.{protected_page}
use Rattle.sd_pagetable.proofs.RangeSteps.{none_changed, changed_more}
use Rattle.sd_pagetable.proofs.RunSteps.{unchanged_run}
use Rattle.sd_pagetable.proofs.ranges.protect_next.Goals as goal

pub returns-clause-value : goal.returns-clause-value
returns-clause-value c =
    let is : c.unwrap-page.result ≡ c.args.first = search rules in
    let none : c.change_run-reached.result ≡ c.unwrap-page.result = (let least = c.change_run-reached.ensures.reached in omega arith) in
    let same = unchanged_run _ c.args.paging.now c.change_run-reached.new.self c.args.space c.unwrap-page.result c.change_run-reached.result c.requires.alive none c.change_run-reached.ensures.value in
    changed_more (protected_page c.args.prot) c.args.paging.now c.change_run-reached.new.self c.protect_page.new.paging c.args.space c.args.first c.args.first (omega arith)
    (same ∙ none_changed (protected_page c.args.prot) c.args.paging.now c.args.space c.args.first c.requires.alive) (rw is at c.protect_page.ensures.mapped) (rw is at c.protect_page.ensures.hole)

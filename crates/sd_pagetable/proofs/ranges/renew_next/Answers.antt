use Rattle.std.proofs.Common.{rules, ◌≡◌, ◌-◌, ap, sym, subst, ◌∙◌, IsSome, arith}
use Rattle.sd_pagetable.specs.Nested.{inside, change_within}
use Rattle.sd_pagetable.specs.Page.{fresh_page}
use Rattle.sd_pagetable.specs.Contents.{page_at}
use Rattle.sd_pagetable.specs.Tracking.{with_space}
use Rattle.sd_pagetable.proofs.RangeLemmas.{none_renewed, renewed}
use Rattle.sd_pagetable.proofs.RunSteps.{set_mapped, unchanged_run}
use Rattle.sd_pagetable.proofs.ranges.renew_next.Goals as goal

pub returns-then-reached-first-clause-value : goal.returns-then-reached-first-clause-value
returns-then-reached-first-clause-value c =
    let is : c.unwrap-page.result ≡ c.args.first = search rules in
    let step : c.change_run-reached.new.self ≡ with_space c.args.paging.now c.args.space (change_within (λ _. fresh_page c.args.prot) (inside c.args.paging.now.spaces c.args.space) c.args.first (c.change_run-reached.result - c.args.first)) =
    rw is at c.change_run-reached.ensures.value in
    step ∙ ap (with_space c.args.paging.now c.args.space) (set_mapped (inside c.args.paging.now.spaces c.args.space) c.args.first c.change_run-reached.result (fresh_page c.args.prot) (rw is at c.change_run-reached.ensures.mapped))

pub renew-requires : goal.renew-requires
renew-requires c =
    let is : c.unwrap-page.result ≡ c.args.first = search rules in
    let none : c.change_run-reached.result ≡ c.unwrap-page.result = (let least = c.change_run-reached.ensures.reached in omega arith) in
    let same = unchanged_run _ c.args.paging.now c.change_run-reached.new.self c.args.space c.unwrap-page.result c.change_run-reached.result c.requires.alive none c.change_run-reached.ensures.value in
    subst (λ m. IsSome (page_at m c.args.space c.unwrap-page.result)) (sym same) (subst (λ k. IsSome (page_at c.args.paging.now c.args.space k)) (sym is) c.requires.there)

pub returns-clause-value : goal.returns-clause-value
returns-clause-value c =
    let is : c.unwrap-page.result ≡ c.args.first = search rules in
    let none : c.change_run-reached.result ≡ c.unwrap-page.result = (let least = c.change_run-reached.ensures.reached in omega arith) in
    let same = unchanged_run _ c.args.paging.now c.change_run-reached.new.self c.args.space c.unwrap-page.result c.change_run-reached.result c.requires.alive none c.change_run-reached.ensures.value in
    renewed c.args.paging.now c.change_run-reached.new.self c.renew.new.self c.args.space c.args.first c.args.first (fresh_page c.args.prot) (omega arith)
    (same ∙ none_renewed c.args.paging.now c.args.space c.args.first (fresh_page c.args.prot) c.requires.alive) (rw is at c.renew.ensures)

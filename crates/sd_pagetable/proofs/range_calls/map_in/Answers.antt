use Rattle.std.proofs.Common.{rules, ◌≡◌, ◌+◌, ◌-◌, Err, ap, ◌∙◌, refl, arith}
use Rattle.sd_areas.specs.Calls.{map_result, within_areas, set_pages}
use Rattle.sd_areas.specs.Pages.{page_of, pages_for}
use Rattle.sd_pagetable.specs.Nested.{inside, is_alive, set_within}
use Rattle.sd_pagetable.specs.Page.{fresh_page}
use Rattle.sd_pagetable.specs.Contents.{Contents}
use Rattle.sd_pagetable.specs.RefusalOrder.{area_refusal, or_else}
use Rattle.sd_pagetable.specs.RangeCalls.{Refuses, pages_refusal}
use Rattle.sd_pagetable.specs.Tracking.{with_space}
use Rattle.sd_pagetable.proofs.RangeSteps.{alive_with}
use Rattle.sd_pagetable.proofs.RangeRefusals.{filled_back, filled_there, renewed_run}
use Rattle.sd_pagetable.proofs.AreaCalls.{pages_refused, passed_on}
use Rattle.sd_pagetable.proofs.range_calls.map_in.Goals as goal

pub returns-in_err-fill_holes-clause-due : goal.returns-in_err-fill_holes-clause-due
returns-in_err-fill_holes-clause-due c =
    let first : c.number-first.result ≡ page_of c.args.address = search rules in
    let count : c.number-first.result + c.in_ok-range.range.count - c.number-first.result ≡ pages_for c.args.bytes = search rules in
    let gives : map_result c.args.own.now c.args.address c.args.bytes c.args.prot ≡ within_areas (set_pages c.args.own.now c.in_ok-range.range.first c.in_ok-range.range.count c.args.prot) =
    passed_on _ _ _ c.in_ok-range.range (λ range. (pages : _) (prot : _) → map_result pages c.args.address c.args.bytes prot ≡ within_areas (set_pages pages range.first range.count prot)) c.in_ok-range.ensures.cases c.in_ok-range.ensures.variant refl c.for_map.ensures.ok c.args.own.now c.args.prot in
    let many = c.in_err-fill_holes.ensures.many in
    let refused : Refuses c.in_err-fill_holes.field-0.0 (or_else (area_refusal (map_result c.args.own.now c.args.address c.args.bytes c.args.prot))
    (pages_refusal (with_space c.args.paging.now c.args.space (set_within (inside c.args.paging.now.spaces c.args.space) (page_of c.args.address) (pages_for c.args.bytes) (fresh_page c.args.prot))))) =
    pages_refused c.in_err-fill_holes.field-0.0 (set_pages c.args.own.now c.in_ok-range.range.first c.in_ok-range.range.count c.args.prot) (map_result c.args.own.now c.args.address c.args.bytes c.args.prot)
    (with_space c.args.paging.now c.args.space (set_within (inside c.args.paging.now.spaces c.args.space) (page_of c.args.address) (pages_for c.args.bytes) (fresh_page c.args.prot))) gives c.in_err-fill_holes.ensures.errors (λ is. rw (← first, ← count) (many (ap Err is))) in
    search rules

pub unfill-requires-clause-alive : goal.unfill-requires-clause-alive
unfill-requires-clause-alive c = ap (λ (m : Contents). is_alive m.spaces c.args.space) c.in_ok-fill_holes.ensures.ok ∙ alive_with c.args.paging.now c.args.space _

pub returns-in-Err-clause-err : goal.returns-in-Err-clause-err
returns-in-Err-clause-err c =
    let same : c.map.new.self ≡ c.args.own.now = c.in-Err.ensures.err in (
      same,
      filled_back c.args.paging.now c.fill_holes.new.paging c.unfill.new.paging c.args.space c.number-first.result (c.number-first.result + c.in_ok-range.range.count) (fresh_page c.args.prot)
          c.map.new.self c.requires.alive (same ∙ c.requires.areas) c.in_ok-fill_holes.ensures.ok c.unfill.ensures,
    )

pub renew-requires-clause-alive : goal.renew-requires-clause-alive
renew-requires-clause-alive c = ap (λ (m : Contents). is_alive m.spaces c.args.space) c.in_ok-fill_holes.ensures.ok ∙ alive_with c.args.paging.now c.args.space _

pub renew-requires-clause-there : goal.renew-requires-clause-there
renew-requires-clause-there c = λ page from below.
    filled_there c.args.paging.now c.fill_holes.new.paging c.args.space c.number-first.result (c.number-first.result + c.in_ok-range.range.count) page (fresh_page c.args.prot) c.in_ok-fill_holes.ensures.ok from below

pub returns-clause-pages : goal.returns-clause-pages
returns-clause-pages c = grind (arith, renewed_run)

pub returns-in_err-fill_holes-clause-fits : goal.returns-in_err-fill_holes-clause-fits
returns-in_err-fill_holes-clause-fits c = grind arith

pub returns-in-Err-clause-fits : goal.returns-in-Err-clause-fits
returns-in-Err-clause-fits c = grind arith

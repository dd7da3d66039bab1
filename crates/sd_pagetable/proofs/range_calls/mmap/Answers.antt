use Rattle.std.proofs.Common.{◌≡◌, Some, ap, is_some, sym, subst, ◌∙◌, ◌≤◌, Option, Ok, IfErr, arith}
use Rattle.sd_areas.specs.Areas.{PageMap}
use Rattle.sd_areas.specs.Calls.{AllHave, map_result}
use Rattle.sd_areas.specs.Pages.{page_of, pages_for}
use Rattle.sd_pagetable.specs.Nested.{inside, set_within}
use Rattle.sd_pagetable.specs.Page.{fresh_page}
use Rattle.sd_pagetable.specs.Contents.{Contents, page_count, plain_of}
use Rattle.sd_pagetable.specs.declared.access_error.AccessError.{AccessError}
use Rattle.sd_pagetable.specs.RangeCalls.{Refuses}
use Rattle.sd_pagetable.specs.Kept.{HasAreas, prots_of}
use Rattle.sd_pagetable.specs.Tracking.{with_space}
use Rattle.std.proofs.lemmas.Result.{on_ok_weaker}
use Rattle.sd_pagetable.proofs.PlainRanges.{areas_with, plain_mapped, prots_seen}
use Rattle.sd_pagetable.proofs.RangeRefusals.{mmap_seen, mapped_fits, own_mapped}
use Rattle.sd_pagetable.proofs.AreaCalls.{areas_put, areas_same, areas_found, areas_absent, still_kept, dead_due, nothing_over, on_both, by_result, answers_by, mmap_due_is}
use Rattle.sd_pagetable.proofs.range_calls.mmap.Goals as goal

pub returns-in_default-clause-due : goal.returns-in_default-clause-due
returns-in_default-clause-due c = grind (arith, areas_absent, mmap_seen, dead_due)

pub returns-clause-kept : goal.returns-clause-kept
returns-clause-kept c =
    let old = c.args.areas.now in
    let new = c.get_mut.follows.lender c.map_in.new.own in
    let own = c.in-Some.own.now in
    let found = areas_found old c.args.paging.now c.args.space own c.requires.kept c.in-Some.ensures.value in
    let put = areas_put old new c.args.space c.map_in.new.own ((c.get_mut.follows.holds c.map_in.new.own).3 (ap is_some (sym c.in-Some.ensures.value))).0 in
    let t = inside c.args.paging.now.spaces c.args.space in
    let mapped = set_within t (page_of c.args.address) (pages_for c.args.bytes) (fresh_page c.args.prot) in
    by_result _ _ (HasAreas new c.map_in.new.paging) c.map_in.result (on_both _ _ c.map_in.result c.map_in.ensures.areas c.map_in.ensures.pages) c.map_in.ensures.err
    (λ done.
    let is : map_result (prots_of t) c.args.address c.args.bytes c.args.prot ≡ Ok c.map_in.new.own = rw (← found.1) done.0 in
    subst (HasAreas new) (sym done.1)
    (areas_with old new c.args.paging.now c.args.space mapped c.map_in.new.own c.requires.kept
    (own_mapped t c.map_in.new.own (page_of c.args.address) (pages_for c.args.bytes) c.args.prot (c.mapped_law.ensures (prots_of t) c.map_in.new.own c.args.address c.args.bytes c.args.prot is))
    put))
    (λ undone. subst (HasAreas new) (sym undone.1) (still_kept old new c.args.paging.now (areas_same old new c.args.space own c.map_in.new.own c.in-Some.ensures.value undone.0 put) c.requires.kept))

pub returns-clause-due : goal.returns-clause-due
returns-clause-due c =
    let own = c.in-Some.own.now in
    let found = areas_found c.args.areas.now c.args.paging.now c.args.space own c.requires.kept c.in-Some.ensures.value in
    let is = mmap_due_is c.args.paging.now c.args.space c.args.address c.args.bytes c.args.prot own found.0 found.1 in
    let t = inside c.args.paging.now.spaces c.args.space in
    let after = with_space c.args.paging.now c.args.space (set_within t (page_of c.args.address) (pages_for c.args.bytes) (fresh_page c.args.prot)) in
    answers_by _ c.map_in.result
    (on_ok_weaker c.map_in.result (λ done. is ∙ nothing_over _ c.map_in.new.own after done.0 (subst (λ (m : Contents). page_count m.spaces ≤ 65536) done.1.0 done.1.1))
    (on_both _ _ c.map_in.result c.map_in.ensures.areas (on_both _ _ c.map_in.result c.map_in.ensures.pages c.map_in.ensures.few)))
    (subst (λ (due : Option AccessError). IfErr c.map_in.result (λ e. Refuses e due)) (sym is) c.map_in.ensures.due)

pub returns-clause-memory : goal.returns-clause-memory
returns-clause-memory c = on_ok_weaker c.map_in.result (λ done. ap plain_of done ∙ plain_mapped c.args.paging.now c.args.space c.args.address c.args.bytes c.args.prot) c.map_in.ensures.pages

pub returns-clause-fits : goal.returns-clause-fits
returns-clause-fits c = λ out. mapped_fits c.args.paging.now c.args.space c.args.address c.args.bytes c.args.prot (c.map_in.ensures.fits out)

pub returns-clause-changes : goal.returns-clause-changes
returns-clause-changes c = λ out all.
    let found = areas_found c.args.areas.now c.args.paging.now c.args.space c.in-Some.own.now c.requires.kept c.in-Some.ensures.value in
    c.map_in.ensures.changes out
    (subst (λ (pages : PageMap). AllHave pages (page_of c.args.address) (pages_for c.args.bytes) (Some c.args.prot)) (prots_seen c.args.paging.now c.args.space ∙ sym found.1) all)

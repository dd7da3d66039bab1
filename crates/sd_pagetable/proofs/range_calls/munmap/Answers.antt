use Rattle.std.proofs.Common.{rules, None, ◌≡◌, sym, ap, subst, ◌∙◌, arith}
use Rattle.sd_areas.specs.Areas.{PageMap}
use Rattle.sd_areas.specs.Calls.{AllHave}
use Rattle.sd_areas.specs.Pages.{page_of, pages_for}
use Rattle.sd_pagetable.specs.Nested.{inside, remove_within}
use Rattle.sd_pagetable.specs.Contents.{plain_of}
use Rattle.sd_pagetable.specs.Kept.{HasAreas, prots_of}
use Rattle.sd_pagetable.specs.Tracking.{with_space}
use Rattle.sd_pagetable.proofs.PlainRanges.{areas_with, plain_unmapped, prots_seen}
use Rattle.sd_pagetable.proofs.RangeRefusals.{munmap_seen, nothing_due, unmapped_within, own_unmapped}
use Rattle.sd_pagetable.proofs.AreaCalls.{still_kept}
use Rattle.sd_pagetable.proofs.range_calls.munmap.Goals as goal

pub returns-in_err-unmap_areas-clause-kept : goal.returns-in_err-unmap_areas-clause-kept
returns-in_err-unmap_areas-clause-kept c = still_kept c.args.areas.now c.unmap_areas.new.areas c.args.paging.now c.in_err-unmap_areas.ensures.err c.requires.kept

pub returns-in_err-unmap_areas-clause-due : goal.returns-in_err-unmap_areas-clause-due
returns-in_err-unmap_areas-clause-due c = grind (arith, munmap_seen)

pub unwrap-page-requires : goal.unwrap-page-requires
unwrap-page-requires c = grind (arith, unmapped_within)

pub unmap-requires-clause-alive : goal.unmap-requires-clause-alive
unmap-requires-clause-alive c = (c.in_ok-unmap_areas.ensures.ok c.args.paging.now c.requires.kept).1

pub unmap-requires-clause-within : goal.unmap-requires-clause-within
unmap-requires-clause-within c = grind (arith, unmapped_within)

pub returns-clause-kept : goal.returns-clause-kept
returns-clause-kept c =
    let own = c.in_ok-unmap_areas.ensures.ok c.args.paging.now c.requires.kept in
    let t = inside c.args.paging.now.spaces c.args.space in
    let done : c.unmap.new.paging ≡ with_space c.args.paging.now c.args.space (remove_within t (page_of c.args.address) (pages_for c.args.bytes)) = search rules in
    subst (HasAreas c.unmap_areas.new.areas) (sym done)
    (areas_with c.args.areas.now c.unmap_areas.new.areas c.args.paging.now c.args.space _ own.0 c.requires.kept
    (own_unmapped t own.0 (page_of c.args.address) (pages_for c.args.bytes) (c.unmapped_law.ensures (prots_of t) own.0 c.args.address c.args.bytes own.2))
    own.3)

pub returns-clause-due : goal.returns-clause-due
returns-clause-due c = grind (arith, munmap_seen, nothing_due)

pub returns-clause-memory : goal.returns-clause-memory
returns-clause-memory c =
    let done : c.unmap.new.paging ≡ with_space c.args.paging.now c.args.space (remove_within (inside c.args.paging.now.spaces c.args.space) (page_of c.args.address) (pages_for c.args.bytes)) = search rules in
    ap plain_of done ∙ plain_unmapped c.args.paging.now c.args.space c.args.address c.args.bytes

pub returns-in_err-unmap_areas-clause-some : goal.returns-in_err-unmap_areas-clause-some
returns-in_err-unmap_areas-clause-some c = λ out all. c.unmap_areas.ensures.some (search rules) c.args.paging.now c.requires.kept
    (subst (λ (pages : PageMap). AllHave pages (page_of c.args.address) (pages_for c.args.bytes) None) (prots_seen c.args.paging.now c.args.space) all)

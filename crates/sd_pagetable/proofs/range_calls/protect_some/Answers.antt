use Rattle.std.proofs.Common.{rules, Some, sym, ap, subst, ◌∙◌, arith}
use Rattle.sd_areas.specs.Areas.{PageMap}
use Rattle.sd_areas.specs.Calls.{AllHave}
use Rattle.sd_areas.specs.Pages.{page_of, pages_for}
use Rattle.sd_pagetable.specs.Nested.{inside}
use Rattle.sd_pagetable.specs.Contents.{plain_of}
use Rattle.sd_pagetable.specs.Kept.{HasAreas, prots_of}
use Rattle.sd_pagetable.proofs.PlainRanges.{areas_with, plain_protected, prots_seen}
use Rattle.sd_pagetable.proofs.RangeRefusals.{mprotect_seen, nothing_due, protected_within, own_protected}
use Rattle.sd_pagetable.proofs.AreaCalls.{still_kept}
use Rattle.sd_pagetable.proofs.range_calls.protect_some.Goals as goal

pub returns-in_err-protect_areas-clause-kept : goal.returns-in_err-protect_areas-clause-kept
returns-in_err-protect_areas-clause-kept c = still_kept c.args.areas.now c.protect_areas.new.areas c.args.paging.now c.in_err-protect_areas.ensures.err c.requires.kept

pub returns-in_err-protect_areas-clause-due : goal.returns-in_err-protect_areas-clause-due
returns-in_err-protect_areas-clause-due c = grind (arith, mprotect_seen)

pub protect_range-requires-clause-alive : goal.protect_range-requires-clause-alive
protect_range-requires-clause-alive c = (c.in_ok-protect_areas.ensures.ok c.args.paging.now c.requires.kept).1

pub protect_range-requires-clause-within : goal.protect_range-requires-clause-within
protect_range-requires-clause-within c = grind (arith, protected_within)

pub returns-clause-kept : goal.returns-clause-kept
returns-clause-kept c =
    let own = c.in_ok-protect_areas.ensures.ok c.args.paging.now c.requires.kept in
    let t = inside c.args.paging.now.spaces c.args.space in
    subst (HasAreas c.protect_areas.new.areas) (sym c.protect_range.ensures)
    (areas_with c.args.areas.now c.protect_areas.new.areas c.args.paging.now c.args.space _ own.0 c.requires.kept
    (own_protected t own.0 (page_of c.args.address) (pages_for c.args.bytes) c.args.prot (c.protected_law.ensures (prots_of t) own.0 c.args.address c.args.bytes c.args.prot own.2))
    own.3)

pub returns-clause-due : goal.returns-clause-due
returns-clause-due c = grind (arith, mprotect_seen, nothing_due)

pub returns-clause-memory : goal.returns-clause-memory
returns-clause-memory c = ap plain_of c.protect_range.ensures ∙ plain_protected c.args.paging.now c.args.space c.args.address c.args.bytes c.args.prot

pub returns-in_err-protect_areas-clause-whole : goal.returns-in_err-protect_areas-clause-whole
returns-in_err-protect_areas-clause-whole c = grind (arith, prots_seen)

pub returns-in_err-protect_areas-clause-changes : goal.returns-in_err-protect_areas-clause-changes
returns-in_err-protect_areas-clause-changes c = λ out all. c.protect_areas.ensures.changes (search rules) c.args.paging.now c.requires.kept
    (subst (λ (pages : PageMap). AllHave pages (page_of c.args.address) (pages_for c.args.bytes) (Some c.args.prot)) (prots_seen c.args.paging.now c.args.space) all)

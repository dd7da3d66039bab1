use Rattle.std.proofs.Common.{rules, ◌≡◌, ◌-◌, subst, arith}
use Rattle.sd_areas.specs.Pages.{is_within}
use Rattle.sd_pagetable.specs.Ranges.{IsCleared}
use Rattle.sd_pagetable.proofs.RunSteps.{mapped_from}
use Rattle.sd_pagetable.proofs.UnmapSteps.{unmaps_holes, unmaps_run}
use Rattle.sd_pagetable.proofs.ranges.unmap_next.Goals as goal

pub returns-then-mapped-end-clause-value : goal.returns-then-mapped-end-clause-value
returns-then-mapped-end-clause-value c =
    let all : c.next_mapped-mapped.result ≡ c.args.end = search rules in
    subst (λ n. IsCleared c.args.paging.now c.args.paging.now c.args.space (is_within c.args.first (n - c.args.first))) all
    (unmaps_holes c.args.paging.now c.args.space c.args.first c.next_mapped-mapped.result c.requires.alive c.next_mapped-mapped.ensures.holes)

pub unmap_mapped-requires-clause-there : goal.unmap_mapped-requires-clause-there
unmap_mapped-requires-clause-there c = mapped_from c.args.paging.now c.args.space c.next_mapped-mapped.result c.next_hole-reached.result (c.next_mapped-mapped.ensures.there (omega arith)) c.next_hole-reached.ensures.mapped

pub returns-clause-value : goal.returns-clause-value
returns-clause-value c = unmaps_run c.args.paging.now c.args.paging.now c.unmap_mapped.new.paging c.args.space c.args.first c.next_mapped-mapped.result c.next_hole-reached.result c.next_mapped-mapped.ensures.reached (omega arith)
    (unmaps_holes c.args.paging.now c.args.space c.args.first c.next_mapped-mapped.result c.requires.alive c.next_mapped-mapped.ensures.holes) c.unmap_mapped.ensures

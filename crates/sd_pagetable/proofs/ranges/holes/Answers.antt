use Rattle.std.proofs.Common.{rules, ◌≡◌, ◌+◌, ◌-◌, ◌<◌, subst, not, is_some, arith}
use Rattle.std.specs.Prelude.{count_by}
use Rattle.sd_areas.specs.Pages.{pages_from}
use Rattle.sd_pagetable.specs.Contents.{page_at}
use Rattle.sd_pagetable.proofs.RangeCounts.{none_counted}
use Rattle.sd_pagetable.proofs.RunSteps.{mapped_from, holes_more}
use Rattle.sd_pagetable.proofs.ranges.holes.Goals as goal

pub loop-reached-init : goal.loop-reached-init
loop-reached-init c = grind (arith, none_counted)

pub loop-reached-preserved : goal.loop-reached-preserved
loop-reached-preserved c =
    let was = c.loop-reached.invariant in
    let mapped = c.next_mapped-mapped.result in
    let to = c.next_hole-reached.result in
    let less : mapped < c.args.end = omega arith in
    let there = mapped_from c.args.paging.now c.args.space mapped to (c.next_mapped-mapped.ensures.there less) c.next_hole-reached.ensures.mapped in
    record {
      begun = omega arith;
      within = c.next_hole-reached.ensures.end;
      counted = holes_more c.args.paging.now c.args.space c.args.first c.loop-reached.reached mapped to c.loop-reached.count was.begun c.next_mapped-mapped.ensures.reached (omega arith) was.counted c.next_mapped-mapped.ensures.holes there;
      few = omega arith;
    }

pub returns-then-mapped-end-clause-counted : goal.returns-then-mapped-end-clause-counted
returns-then-mapped-end-clause-counted c =
    let was = c.loop-reached.invariant in
    let mapped = c.next_mapped-mapped.result in
    let all : mapped ≡ c.args.end = search rules in
    subst (λ n. c.loop-reached.count + (mapped - c.loop-reached.reached) ≡ count_by (λ page. not (is_some (page_at c.args.paging.now c.args.space page))) (pages_from c.args.first (n - c.args.first))) all
    (holes_more c.args.paging.now c.args.space c.args.first c.loop-reached.reached mapped mapped c.loop-reached.count was.begun c.next_mapped-mapped.ensures.reached (omega arith) was.counted c.next_mapped-mapped.ensures.holes
    (λ page l m. absurd (omega arith)))

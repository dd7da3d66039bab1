use Rattle.std.proofs.Common.{rules, ◌≡◌, sym, subst, IsSome}
use Rattle.sd_pagetable.specs.Contents.{page_at}
use Rattle.sd_pagetable.proofs.RangeSteps.{cleared_alive}
use Rattle.sd_pagetable.proofs.UnmapSteps.{unmaps_none, unmaps_more, still_mapped}
use Rattle.sd_pagetable.proofs.ranges.unmap_mapped.Goals as goal

pub loop-number-init : goal.loop-number-init
loop-number-init c = record { done = unmaps_none c.args.paging.now c.args.space c.args.first c.requires.alive }

pub remove-requires : goal.remove-requires
remove-requires c =
    let is : c.unwrap-page.result ≡ c.loop-number.number = search rules in
    subst (λ k. IsSome (page_at c.loop-number.paging c.args.space k)) (sym is)
    (still_mapped c.args.paging.now c.loop-number.paging c.args.space c.args.first c.loop-number.number c.loop-number.invariant.done (c.requires.there c.loop-number.number c.loop-number.auto.number c.loop-number-test.true))

pub loop-number-preserved : goal.loop-number-preserved
loop-number-preserved c =
    let is : c.unwrap-page.result ≡ c.loop-number.number = search rules in
    let now = c.loop-number.paging in
    record {
      done = unmaps_more c.args.paging.now now c.remove.new.self c.args.space c.args.first c.loop-number.number c.loop-number.auto.number (cleared_alive _ _ c.args.space _ c.loop-number.invariant.done) c.loop-number.invariant.done
          (still_mapped c.args.paging.now now c.args.space c.args.first c.loop-number.number c.loop-number.invariant.done (c.requires.there c.loop-number.number c.loop-number.auto.number c.loop-number-test.true)) (rw is at c.remove.ensures);
    }

use Rattle.std.proofs.Common.{rules, ◌≡◌, not, is_some}
use Rattle.std.specs.FinMap as finmap
use Rattle.sd_pagetable.proofs.RangeSteps.{none_unfilled, unfilled_step, cleared_alive}
use Rattle.sd_pagetable.proofs.ranges.unfill.Goals as goal

pub loop-number-init : goal.loop-number-init
loop-number-init c = record { done = none_unfilled (λ q. not (is_some (finmap.get c.args.areas.now q))) c.args.paging.now c.args.space c.args.first c.requires.alive }

pub unfill_page-requires : goal.unfill_page-requires
unfill_page-requires c = record { alive = cleared_alive _ _ c.args.space _ c.loop-number.invariant.done }

pub loop-number-preserved : goal.loop-number-preserved
loop-number-preserved c =
    let is : c.unwrap-page.result ≡ c.loop-number.number = search rules in
    record {
      done = unfilled_step (λ q. finmap.get c.args.areas.now q) c.args.paging.now c.loop-number.paging c.unfill_page.new.paging c.args.space c.args.first c.loop-number.number c.loop-number.auto.number
          (rw is at c.unfill_page.ensures.kept) (rw is at c.unfill_page.ensures.gone) c.loop-number.invariant.done;
    }

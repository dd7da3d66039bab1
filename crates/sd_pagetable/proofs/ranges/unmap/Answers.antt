use Rattle.std.proofs.Common.{rules, ◌≡◌, ◌-◌, sym, subst, arith}
use Rattle.sd_areas.specs.Pages.{is_within}
use Rattle.sd_pagetable.specs.Ranges.{IsCleared}
use Rattle.sd_pagetable.proofs.RangeSteps.{cleared_alive}
use Rattle.sd_pagetable.proofs.UnmapSteps.{unmaps_none, unmaps_run, unmaps_all}
use Rattle.sd_pagetable.proofs.ranges.unmap.Goals as goal

pub loop-reached-init : goal.loop-reached-init
loop-reached-init c =
    let is : c.number-reached.result ≡ c.args.first = search rules in
    record {
      begun = omega arith;
      within = (let le = c.requires.ordered in omega arith);
      done = subst (λ n. IsCleared c.args.paging.now c.args.paging.now c.args.space (is_within c.args.first (n - c.args.first))) (sym is) (unmaps_none c.args.paging.now c.args.space c.args.first c.requires.alive);
    }

pub unmap_next-reached-requires-clause-alive : goal.unmap_next-reached-requires-clause-alive
unmap_next-reached-requires-clause-alive c = cleared_alive _ _ c.args.space _ c.loop-reached.invariant.done

pub loop-reached-preserved : goal.loop-reached-preserved
loop-reached-preserved c = record {
  begun = (let was = c.loop-reached.invariant.begun in let more = c.unmap_next-reached.ensures.more in omega arith);
  within = c.unmap_next-reached.ensures.end;
  done = unmaps_run c.args.paging.now c.loop-reached.paging c.unmap_next-reached.new.paging c.args.space c.args.first c.loop-reached.reached c.unmap_next-reached.result
      c.loop-reached.invariant.begun (let more = c.unmap_next-reached.ensures.more in omega arith) c.loop-reached.invariant.done c.unmap_next-reached.ensures.value;
}

pub returns : goal.returns
returns c =
    let was = c.loop-reached.invariant in
    let all : c.loop-reached.reached ≡ c.args.end = omega arith in
    unmaps_all c.args.paging.now c.loop-reached.paging c.args.space c.args.first (c.args.end - c.args.first)
    (subst (λ n. IsCleared c.args.paging.now c.loop-reached.paging c.args.space (is_within c.args.first (n - c.args.first))) all was.done)

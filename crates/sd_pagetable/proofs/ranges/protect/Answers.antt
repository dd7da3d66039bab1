use Rattle.std.proofs.Common.{◌∙◌, ap, arith}
use Rattle.sd_pagetable.specs.Nested.{is_alive}
use Rattle.sd_pagetable.specs.Contents.{Contents}
use Rattle.sd_pagetable.specs.Page.{protected_page}
use Rattle.sd_pagetable.proofs.RangeSteps.{none_changed, alive_with}
use Rattle.sd_pagetable.proofs.RunSteps.{changed_run}
use Rattle.sd_pagetable.proofs.ranges.protect.Goals as goal

pub loop-reached-init : goal.loop-reached-init
loop-reached-init c = grind (arith, none_changed)

pub protect_next-reached-requires-clause-alive : goal.protect_next-reached-requires-clause-alive
protect_next-reached-requires-clause-alive c = ap (λ (m : Contents). is_alive m.spaces c.args.space) c.loop-reached.invariant.done ∙ alive_with c.args.paging.now c.args.space _

pub loop-reached-preserved : goal.loop-reached-preserved
loop-reached-preserved c = record {
  begun = (let was = c.loop-reached.invariant.begun in let more = c.protect_next-reached.ensures.more in omega arith);
  within = c.protect_next-reached.ensures.end;
  done = changed_run (protected_page c.args.prot) c.args.paging.now c.loop-reached.paging c.protect_next-reached.new.paging c.args.space c.args.first c.loop-reached.reached c.protect_next-reached.result
      c.loop-reached.invariant.begun (let more = c.protect_next-reached.ensures.more in omega arith) c.loop-reached.invariant.done c.protect_next-reached.ensures.value;
}

pub returns : goal.returns
returns c = grind arith

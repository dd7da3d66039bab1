use Rattle.std.proofs.Common.{◌∙◌, ap, arith}
use Rattle.sd_pagetable.specs.Nested.{is_alive}
use Rattle.sd_pagetable.specs.Contents.{Contents}
use Rattle.sd_pagetable.specs.Page.{fresh_page}
use Rattle.sd_pagetable.proofs.RangeLemmas.{none_renewed, still_there}
use Rattle.sd_pagetable.proofs.RangeSteps.{alive_with}
use Rattle.sd_pagetable.proofs.RunSteps.{renewed_run}
use Rattle.sd_pagetable.proofs.ranges.renew.Goals as goal

pub loop-reached-init : goal.loop-reached-init
loop-reached-init c = grind (arith, none_renewed)

pub renew_next-reached-requires-clause-alive : goal.renew_next-reached-requires-clause-alive
renew_next-reached-requires-clause-alive c = ap (λ (m : Contents). is_alive m.spaces c.args.space) c.loop-reached.invariant.done ∙ alive_with c.args.paging.now c.args.space _

pub renew_next-reached-requires-clause-there : goal.renew_next-reached-requires-clause-there
renew_next-reached-requires-clause-there c = grind (arith, still_there)

pub loop-reached-preserved : goal.loop-reached-preserved
loop-reached-preserved c = record {
  begun = (let was = c.loop-reached.invariant.begun in let more = c.renew_next-reached.ensures.more in omega arith);
  within = c.renew_next-reached.ensures.end;
  done = renewed_run c.args.paging.now c.loop-reached.paging c.renew_next-reached.new.paging c.args.space c.args.first c.loop-reached.reached c.renew_next-reached.result (fresh_page c.args.prot)
      c.loop-reached.invariant.begun (let more = c.renew_next-reached.ensures.more in omega arith) c.loop-reached.invariant.done c.renew_next-reached.ensures.value;
}

pub returns : goal.returns
returns c = grind arith

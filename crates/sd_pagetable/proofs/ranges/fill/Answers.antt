use Rattle.std.proofs.Common.{◌∙◌, ap, arith}
use Rattle.sd_pagetable.specs.Nested.{is_alive}
use Rattle.sd_pagetable.specs.Page.{fresh_page}
use Rattle.sd_pagetable.specs.Contents.{Contents}
use Rattle.sd_pagetable.proofs.RangeSteps.{alive_with, none_filled, unfilled}
use Rattle.sd_pagetable.proofs.RunSteps.{room_for, filled_to}
use Rattle.sd_pagetable.proofs.ranges.fill.Goals as goal

pub loop-reached-init : goal.loop-reached-init
loop-reached-init c = grind (arith, none_filled)

pub fill_next-requires-clause-alive : goal.fill_next-requires-clause-alive
fill_next-requires-clause-alive c = ap (λ (m : Contents). is_alive m.spaces c.args.space) c.loop-reached.invariant.fills.done ∙ alive_with c.args.paging.now c.args.space _

pub fill_next-requires-clause-room : goal.fill_next-requires-clause-room
fill_next-requires-clause-room c = λ to le within holes.
    room_for c.args.paging.now c.loop-reached.paging c.args.space c.args.first c.loop-reached.reached c.args.end to (fresh_page c.args.prot) c.loop-reached.invariant.fills le within holes

pub loop-reached-preserved : goal.loop-reached-preserved
loop-reached-preserved c =
    let was = c.loop-reached.invariant in
    let more = c.in-Ok.ensures.more in
    let alive = ap (λ (m : Contents). is_alive m.spaces c.args.space) was.fills.done ∙ alive_with c.args.paging.now c.args.space _ in
    record {
      begun = (let b = was.begun in omega arith);
      within = c.in-Ok.ensures.end;
      fills = filled_to c.args.paging.now c.loop-reached.paging c.fill_next.new.paging c.args.space c.args.first c.loop-reached.reached c.in-Ok.next c.args.end (fresh_page c.args.prot)
          was.begun (omega arith) c.in-Ok.ensures.end alive was.fills c.in-Ok.ensures.value;
    }

pub returns-in_default-clause-hole : goal.returns-in_default-clause-hole
returns-in_default-clause-hole c = grind (arith, unfilled)

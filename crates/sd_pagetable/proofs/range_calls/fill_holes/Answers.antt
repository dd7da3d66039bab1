use Rattle.std.proofs.Common.{ap, ◌∙◌, arith}
use Rattle.sd_pagetable.specs.Nested.{is_alive}
use Rattle.sd_pagetable.specs.Page.{fresh_page}
use Rattle.sd_pagetable.specs.Contents.{Contents}
use Rattle.sd_pagetable.proofs.RangeSteps.{alive_with}
use Rattle.sd_pagetable.proofs.RangeRefusals.{filled_back, hole_lacks}
use Rattle.sd_pagetable.proofs.range_calls.fill_holes.Goals as goal

pub unfill-requires-clause-alive : goal.unfill-requires-clause-alive
unfill-requires-clause-alive c = ap (λ (m : Contents). is_alive m.spaces c.args.space) c.fill-reached.ensures.filled ∙ alive_with c.args.paging.now c.args.space _

pub returns-then-reached-end-clause-err : goal.returns-then-reached-end-clause-err
returns-then-reached-end-clause-err c = filled_back c.args.paging.now c.fill-reached.new.paging c.unfill.new.paging c.args.space c.args.first c.fill-reached.result (fresh_page c.args.prot) c.args.own.now
    c.requires.alive c.requires.areas c.fill-reached.ensures.filled c.unfill.ensures

pub returns-clause-ok : goal.returns-clause-ok
returns-clause-ok c = grind arith

pub returns-then-reached-end-clause-hole : goal.returns-then-reached-end-clause-hole
returns-then-reached-end-clause-hole c = λ _ all. hole_lacks c.args.paging.now c.args.space c.args.first c.args.end c.fill-reached.result c.args.own.now c.args.prot
    c.requires.areas c.fill-reached.ensures.reached c.if-reached-end.true (c.fill-reached.ensures.hole c.if-reached-end.true) all

use Rattle.std.proofs.Common.{ap, sym, is_some, arith}
use Rattle.sd_areas.proofs.Memory.{on_err}
use Rattle.sd_pagetable.proofs.AreaCalls.{areas_put, areas_same, areas_found}
use Rattle.sd_pagetable.proofs.range_calls.unmap_areas.Goals as goal

pub returns-in_err-unmap-clause-err : goal.returns-in_err-unmap-clause-err
returns-in_err-unmap-clause-err c =
    let holds = (c.get_mut.follows.holds c.unmap.new.self).3 (ap is_some (sym c.in-Some.ensures.value)) in
    on_err c.from_residual.result _ (areas_same c.args.areas.now (c.get_mut.follows.lender c.unmap.new.self) c.args.space c.in-Some.own.now c.unmap.new.self c.in-Some.ensures.value c.in_err-unmap.ensures.err (areas_put c.args.areas.now (c.get_mut.follows.lender c.unmap.new.self) c.args.space c.unmap.new.self holds.0))

pub returns-clause-ok : goal.returns-clause-ok
returns-clause-ok c = λ contents kept.
    let holds = (c.get_mut.follows.holds c.unmap.new.self).3 (ap is_some (sym c.in-Some.ensures.value)) in
    let found = areas_found c.args.areas.now contents c.args.space c.in-Some.own.now kept c.in-Some.ensures.value in
    (c.unmap.new.self, found.0, rw (← found.1) c.in_ok-unmap.ensures.ok, areas_put c.args.areas.now (c.get_mut.follows.lender c.unmap.new.self) c.args.space c.unmap.new.self holds.0)

pub returns-in_err-unmap-clause-some : goal.returns-in_err-unmap-clause-some
returns-in_err-unmap-clause-some c = grind (arith, areas_found)

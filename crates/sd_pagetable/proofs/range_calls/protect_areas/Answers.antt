use Rattle.std.proofs.Common.{ap, sym, is_some, arith}
use Rattle.sd_areas.proofs.Memory.{on_err}
use Rattle.sd_pagetable.proofs.AreaCalls.{areas_put, areas_same, areas_found}
use Rattle.sd_pagetable.proofs.range_calls.protect_areas.Goals as goal

pub returns-in_err-protect-clause-err : goal.returns-in_err-protect-clause-err
returns-in_err-protect-clause-err c =
    let holds = (c.get_mut.follows.holds c.protect.new.self).3 (ap is_some (sym c.in-Some.ensures.value)) in
    on_err c.from_residual.result _ (areas_same c.args.areas.now (c.get_mut.follows.lender c.protect.new.self) c.args.space c.in-Some.own.now c.protect.new.self c.in-Some.ensures.value c.in_err-protect.ensures.err (areas_put c.args.areas.now (c.get_mut.follows.lender c.protect.new.self) c.args.space c.protect.new.self holds.0))

pub returns-clause-ok : goal.returns-clause-ok
returns-clause-ok c = λ contents kept.
    let holds = (c.get_mut.follows.holds c.protect.new.self).3 (ap is_some (sym c.in-Some.ensures.value)) in
    let found = areas_found c.args.areas.now contents c.args.space c.in-Some.own.now kept c.in-Some.ensures.value in
    (c.protect.new.self, found.0, rw (← found.1) c.in_ok-protect.ensures.ok, areas_put c.args.areas.now (c.get_mut.follows.lender c.protect.new.self) c.args.space c.protect.new.self holds.0)

pub returns-in_err-protect-clause-whole : goal.returns-in_err-protect-clause-whole
returns-in_err-protect-clause-whole c = grind (arith, areas_found)

use Rattle.std.proofs.Common.{Ok, subst}
use Rattle.sd_gate.specs.Plans.{Planned}
use Rattle.sd_disk.specs.declared.error.DeviceError.{DeviceError}
use Rattle.sd_receive.specs.PlanRuns.{RunsCalls}
use Rattle.sd_receive.proofs.ClosedLemmas.{closed_settled, closing_leaves, closing_runs}
use Rattle.sd_receive.proofs.closing.close.Goals as goal

pub returns-in_err-run-clause-leaves : goal.returns-in_err-run-clause-leaves
returns-in_err-run-clause-leaves g c = λ rest opens.
    let d = g.D.Disk in
    let old = c.args.disk.now in
    let new = c.run.new.disk in
    let ran = closing_runs d old new c.run.result c.args.slot rest c.requires opens c.plans_take.ensures
    (subst (λ (plan : Planned). RunsCalls d plan.slot plan.calls old new c.run.result) c.retire.ensures c.run.ensures.runs) in
    closing_leaves d old new c.run.result c.args.slot rest c.requires opens ran

pub returns-clause-leaves : goal.returns-clause-leaves
returns-clause-leaves g c = λ rest opens.
    let d = g.D.Disk in
    let old = c.args.disk.now in
    let new = c.run.new.disk in
    let ran = closing_runs d old new c.run.result c.args.slot rest c.requires opens c.plans_take.ensures
    (subst (λ (plan : Planned). RunsCalls d plan.slot plan.calls old new c.run.result) c.retire.ensures c.run.ensures.runs) in
    closing_leaves d old new c.run.result c.args.slot rest c.requires opens ran

pub returns-clause-closed : goal.returns-clause-closed
returns-clause-closed g c = λ rest opens.
    let d = g.D.Disk in
    let old = c.args.disk.now in
    let new = c.run.new.disk in
    let ran = closing_runs {E = DeviceError} d old new (Ok c.in_ok-run.field-0) c.args.slot rest c.requires opens c.plans_take.ensures
    (subst (λ (plan : Planned). RunsCalls {E = DeviceError} d plan.slot plan.calls old new (Ok c.in_ok-run.field-0)) c.retire.ensures c.in_ok-run.ensures.runs) in
    closed_settled {E = DeviceError} d old new (Ok c.in_ok-run.field-0) c.args.slot rest c.requires opens ran.at_end

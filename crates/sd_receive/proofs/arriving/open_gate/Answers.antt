use Rattle.std.proofs.Common.{Ok, subst}
use Rattle.sd_gate.specs.Plans.{Planned}
use Rattle.sd_disk.specs.declared.error.DeviceError.{DeviceError}
use Rattle.sd_receive.specs.PlanRuns.{RunsCalls}
use Rattle.sd_receive.proofs.FillLemmas.{body_opened, body_opens, body_runs}
use Rattle.sd_receive.proofs.arriving.open_gate.Goals as goal

pub returns-in_err-run-clause-opens : goal.returns-in_err-run-clause-opens
returns-in_err-run-clause-opens g c = λ pages count words fill.
    let d = g.D.Disk in
    let old = c.args.disk.now in
    let new = c.run.new.disk in
    let ran = body_runs d old new c.run.result c.args.slot c.plans_take.ensures c.bodies_fill.ensures c.requires.slot pages fill c.args.header c.args.table.items count words
    (subst (λ (plan : Planned). RunsCalls d plan.slot plan.calls old new c.run.result) (c.close_body.ensures.body c.requires.body) c.run.ensures.runs) in
    body_opens d old new c.run.result c.args.slot c.plans_take.ensures c.bodies_fill.ensures c.requires.slot pages fill c.args.header c.args.table.items count words ran

pub returns-clause-opens : goal.returns-clause-opens
returns-clause-opens g c = λ pages count words fill.
    let d = g.D.Disk in
    let old = c.args.disk.now in
    let new = c.run.new.disk in
    let ran = body_runs d old new c.run.result c.args.slot c.plans_take.ensures c.bodies_fill.ensures c.requires.slot pages fill c.args.header c.args.table.items count words
    (subst (λ (plan : Planned). RunsCalls d plan.slot plan.calls old new c.run.result) (c.close_body.ensures.body c.requires.body) c.run.ensures.runs) in
    body_opens d old new c.run.result c.args.slot c.plans_take.ensures c.bodies_fill.ensures c.requires.slot pages fill c.args.header c.args.table.items count words ran

pub returns-clause-opened : goal.returns-clause-opened
returns-clause-opened g c = λ pages count words fill.
    let d = g.D.Disk in
    let old = c.args.disk.now in
    let new = c.run.new.disk in
    let ran = body_runs {E = DeviceError} d old new (Ok c.in_ok-run.field-0) c.args.slot c.plans_take.ensures c.bodies_fill.ensures c.requires.slot pages fill c.args.header c.args.table.items count words
    (subst (λ (plan : Planned). RunsCalls {E = DeviceError} d plan.slot plan.calls old new (Ok c.in_ok-run.field-0)) (c.close_body.ensures.body c.requires.body) c.in_ok-run.ensures.runs) in
    body_opened {E = DeviceError} d old new (Ok c.in_ok-run.field-0) c.args.slot c.plans_take.ensures c.bodies_fill.ensures c.requires.slot pages fill c.args.header c.args.table.items count words ran.at_end

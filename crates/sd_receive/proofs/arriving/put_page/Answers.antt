use Rattle.std.proofs.Common.{ℕ, List, Ok, subst}
use Rattle.sd_gate.specs.Plans.{Planned}
use Rattle.sd_disk.specs.declared.error.DeviceError.{DeviceError}
use Rattle.sd_receive.specs.PlanRuns.{RunsCalls}
use Rattle.sd_receive.proofs.FillLemmas.{page_filled, page_keeps, page_runs}
use Rattle.sd_receive.proofs.arriving.put_page.Goals as goal

pub returns-in_err-plan-clause-keeps : goal.returns-in_err-plan-clause-keeps
returns-in_err-plan-clause-keeps g c = λ pages at fill.
    let d = g.D.Disk in
    let old = c.args.disk.now in
    let new = c.run.new.disk in
    let bytes : List ℕ = c.args.buffer.items in
    let ran = page_runs d old new c.run.result c.args.slot c.plans_take.ensures c.bodies_fill.ensures c.requires.slot pages fill c.args.place bytes at c.requires.page.whole
    (subst (λ (plan : Planned). RunsCalls d plan.slot plan.calls old new c.run.result) (c.write_page.ensures.page c.requires.page) c.run.ensures.runs) in
    page_keeps d old new c.run.result c.args.slot c.plans_take.ensures c.bodies_fill.ensures c.requires.slot pages fill c.args.place bytes at c.requires.page.whole ran

pub returns-clause-keeps : goal.returns-clause-keeps
returns-clause-keeps g c = λ pages at fill.
    let d = g.D.Disk in
    let old = c.args.disk.now in
    let new = c.run.new.disk in
    let bytes : List ℕ = c.args.buffer.items in
    let ran = page_runs d old new c.run.result c.args.slot c.plans_take.ensures c.bodies_fill.ensures c.requires.slot pages fill c.args.place bytes at c.requires.page.whole
    (subst (λ (plan : Planned). RunsCalls d plan.slot plan.calls old new c.run.result) (c.write_page.ensures.page c.requires.page) c.run.ensures.runs) in
    page_keeps d old new c.run.result c.args.slot c.plans_take.ensures c.bodies_fill.ensures c.requires.slot pages fill c.args.place bytes at c.requires.page.whole ran

pub returns-clause-filled : goal.returns-clause-filled
returns-clause-filled g c = λ pages at fill.
    let d = g.D.Disk in
    let old = c.args.disk.now in
    let new = c.run.new.disk in
    let bytes : List ℕ = c.args.buffer.items in
    let ran = page_runs {E = DeviceError} d old new (Ok c.in_ok-plan.plan) c.args.slot c.plans_take.ensures c.bodies_fill.ensures c.requires.slot pages fill c.args.place bytes at c.requires.page.whole
    (subst (λ (plan : Planned). RunsCalls {E = DeviceError} d plan.slot plan.calls old new (Ok c.in_ok-plan.plan)) (c.write_page.ensures.page c.requires.page) c.in_ok-plan.ensures.runs) in
    page_filled {E = DeviceError} d old new (Ok c.in_ok-plan.plan) c.args.slot c.plans_take.ensures c.bodies_fill.ensures c.requires.slot pages fill c.args.place bytes at c.requires.page.whole
    ran.at_end

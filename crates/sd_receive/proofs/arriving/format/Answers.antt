use Rattle.std.proofs.Common.{Ok, subst}
use Rattle.sd_gate.specs.Plans.{Planned}
use Rattle.sd_gate.specs.Sequences.{format_calls}
use Rattle.sd_receive.specs.Arriving.{KeepsImages}
use Rattle.sd_disk.specs.declared.error.DeviceError.{DeviceError}
use Rattle.sd_receive.specs.PlanRuns.{RunsCalls}
use Rattle.sd_receive.proofs.FillLemmas.{filled_bare, format_runs, keeps_all, span_of_reads}
use Rattle.sd_receive.proofs.SettledLemmas.{settled_leaves}
use Rattle.sd_receive.proofs.arriving.format.Goals as goal

pub returns-in_err-state-clause-keeps : goal.returns-in_err-state-clause-keeps
returns-in_err-state-clause-keeps g c = λ honest rest shut.
    let d = g.D.Disk in
    let old = c.args.disk.now in
    span_of_reads d old c.synced_state.new.disk (KeepsImages (d.contents old)) c.synced_state.ensures.reads (λ files left. g.met.D.Disk.only_now old files left)
    (λ files may. settled_leaves (d.contents old) files (d.may_leave old) rest (g.met.D.Disk.same_slots old files may) may)

pub returns-in_err-run-clause-keeps : goal.returns-in_err-run-clause-keeps
returns-in_err-run-clause-keeps g c = λ honest rest shut.
    let d = g.D.Disk in
    let old = c.args.disk.now in
    let mid = c.synced_state.new.disk in
    let new = c.run.new.disk in
    let s = c.in_ok-state.ensures in
    let ran = format_runs d old mid new c.run.result c.args.slot c.plans_take.ensures (λ files left. g.met.D.Disk.only_now old files left) (λ files may. g.met.D.Disk.same_slots old files may) s.reads s.synced
    c.found_fits.ensures c.requires rest shut
    (subst (λ state. RunsCalls d c.args.slot (format_calls state) mid new c.run.result) (s.state (c.run.ensures.honest honest) shut)
    (subst (λ (plan : Planned). RunsCalls d plan.slot plan.calls mid new c.run.result) c.format.ensures c.run.ensures.runs)) in
    keeps_all d old mid new c.run.result c.args.slot c.plans_take.ensures (λ files left. g.met.D.Disk.only_now old files left) (λ files may. g.met.D.Disk.same_slots old files may) s.reads s.synced
    c.found_fits.ensures c.requires rest shut ran

pub returns-clause-keeps : goal.returns-clause-keeps
returns-clause-keeps g c = λ honest rest shut.
    let d = g.D.Disk in
    let old = c.args.disk.now in
    let mid = c.synced_state.new.disk in
    let new = c.run.new.disk in
    let s = c.in_ok-state.ensures in
    let ran = format_runs d old mid new c.run.result c.args.slot c.plans_take.ensures (λ files left. g.met.D.Disk.only_now old files left) (λ files may. g.met.D.Disk.same_slots old files may) s.reads s.synced
    c.found_fits.ensures c.requires rest shut
    (subst (λ state. RunsCalls d c.args.slot (format_calls state) mid new c.run.result) (s.state (c.run.ensures.honest honest) shut)
    (subst (λ (plan : Planned). RunsCalls d plan.slot plan.calls mid new c.run.result) c.format.ensures c.run.ensures.runs)) in
    keeps_all d old mid new c.run.result c.args.slot c.plans_take.ensures (λ files left. g.met.D.Disk.only_now old files left) (λ files may. g.met.D.Disk.same_slots old files may) s.reads s.synced
    c.found_fits.ensures c.requires rest shut ran

pub returns-clause-filled : goal.returns-clause-filled
returns-clause-filled g c = λ honest rest shut.
    let d = g.D.Disk in
    let old = c.args.disk.now in
    let mid = c.synced_state.new.disk in
    let new = c.run.new.disk in
    let s = c.in_ok-state.ensures in
    let ran = format_runs {E = DeviceError} d old mid new (Ok c.in_ok-run.field-0) c.args.slot c.plans_take.ensures (λ files left. g.met.D.Disk.only_now old files left) (λ files may. g.met.D.Disk.same_slots old files may) s.reads s.synced
    c.found_fits.ensures c.requires rest shut
    (subst (λ state. RunsCalls {E = DeviceError} d c.args.slot (format_calls state) mid new (Ok c.in_ok-run.field-0)) (s.state (c.run.ensures.honest honest) shut)
    (subst (λ (plan : Planned). RunsCalls {E = DeviceError} d plan.slot plan.calls mid new (Ok c.in_ok-run.field-0)) c.format.ensures c.in_ok-run.ensures.runs)) in
    filled_bare {E = DeviceError} d old mid new (Ok c.in_ok-run.field-0) c.args.slot c.plans_take.ensures (λ files left. g.met.D.Disk.only_now old files left) (λ files may. g.met.D.Disk.same_slots old files may) s.reads s.synced
    c.found_fits.ensures c.requires rest shut ran.at_end

use Rattle.std.proofs.Common.{◌≡◌, ◌≢◌, ℕ, List, subst}
use Rattle.sd_disk.specs.Contents.{file_at}
use Rattle.sd_gate.specs.declared.phase.Phase.{Phase}
use Rattle.sd_gate.specs.Calls.{IsLook, is_done, call_of, bytes_of}
use Rattle.sd_gate.specs.Fits.{SlotFits}
use Rattle.sd_gate.specs.Requests.{Asked}
use Rattle.sd_gate.proofs.CallLemmas.{IsMade, behind_gate, follows, kept_elsewhere, makes_as_many, makes_elsewhere, makes_nothing}
use Rattle.sd_gate.proofs.SlotsLemmas.{each_slot, each_left, within_call}
use Rattle.sd_gate.proofs.device_call.perform.Goals as goal

pub returns-clause-fits : goal.returns-clause-fits
returns-clause-fits g c = λ phase body ready fits.
    let old = g.D.Disk.contents c.args.disk.now in
    let new = g.D.Disk.contents c.make-order.new.disk in
    let before = g.D.Disk.may_leave c.args.disk.now in
    let now = g.D.Disk.may_leave c.make-order.new.disk in
    let done = is_done c.make-order.result.1 in
    let made = c.make-order.ensures in
    follows c.args.request.id.slot c.args.request.bytes old new before now c.args.request.id.call done phase body
    (subst (λ (r : Asked). IsMade r.id.slot r.id.call r.bytes done old new before now) c.request.view_is
    (record {
      there = rw (← c.request.view_is) at c.requires.slot;
      behind = behind_gate c.request.inside.order c.request.invariant;
      now_read = g.met.D.Disk.as_read c.args.disk.now;
      whole = made.done;
      torn = made.torn;
      crash = made.crash;
      durable = made.durable;
    })) ready fits

pub returns-clause-elsewhere : goal.returns-clause-elsewhere
returns-clause-elsewhere g c =
    let old = g.D.Disk.contents c.args.disk.now in
    let new = g.D.Disk.contents c.make-order.new.disk in
    let before = g.D.Disk.may_leave c.args.disk.now in
    let now = g.D.Disk.may_leave c.make-order.new.disk in
    let made = c.make-order.ensures in
    subst (λ (r : Asked). (other : ℕ) (phase : Phase) (body : List ℕ) → other ≢ r.id.slot → SlotFits phase body other old before → SlotFits phase body other new now) c.request.view_is
    (kept_elsewhere (call_of c.request.inside.order) (bytes_of c.request.inside.order) c.request.inside.slot old new before now made.torn made.crash)

pub returns-clause-every_slot : goal.returns-clause-every_slot
returns-clause-every_slot g c = λ phases bodies phase waits fits. each_slot phases bodies
    (g.D.Disk.contents c.args.disk.now) (g.D.Disk.contents c.make-order.new.disk) (g.D.Disk.may_leave c.args.disk.now) (g.D.Disk.may_leave c.make-order.new.disk)
    c.args.request.id.slot phase _ _
    (makes_as_many (call_of c.request.inside.order) (bytes_of c.request.inside.order) c.request.inside.slot
    (g.D.Disk.contents c.args.disk.now) (g.D.Disk.contents c.make-order.new.disk) c.make-order.ensures.torn) fits waits.is
    (λ here. returns-clause-fits g c phase (file_at bodies c.args.request.id.slot) waits.ready here)
    (returns-clause-elsewhere g c)

pub returns-clause-any_moment : goal.returns-clause-any_moment
returns-clause-any_moment g c = λ phase body ready fits. within_call g.D.Disk c.args.disk.now c.make-order.new.disk
    _ _ (g.D.Disk.may_leave c.args.disk.now) (g.D.Disk.may_leave c.make-order.new.disk)
    (λ left_c left. g.met.D.Disk.only_now c.args.disk.now left_c left) c.make-order.ensures.one_call.time fits.leaves
    ((returns-clause-fits g c phase body ready fits).leaves)

pub returns-clause-every_moment : goal.returns-clause-every_moment
returns-clause-every_moment g c = λ phases bodies phase waits fits. within_call g.D.Disk c.args.disk.now c.make-order.new.disk
    _ _ (g.D.Disk.may_leave c.args.disk.now) (g.D.Disk.may_leave c.make-order.new.disk)
    (λ left_c left. g.met.D.Disk.only_now c.args.disk.now left_c left) c.make-order.ensures.one_call.time
    (each_left phases bodies (g.D.Disk.contents c.args.disk.now) (g.D.Disk.may_leave c.args.disk.now) (λ left_c left. g.met.D.Disk.same_slots c.args.disk.now left_c left) fits)
    (each_left _ _ (g.D.Disk.contents c.make-order.new.disk) (g.D.Disk.may_leave c.make-order.new.disk) (λ left_c left. g.met.D.Disk.same_slots c.make-order.new.disk left_c left) (returns-clause-every_slot g c phases bodies phase waits fits))

pub returns-clause-looks : goal.returns-clause-looks
returns-clause-looks g c =
    let old = g.D.Disk.contents c.args.disk.now in
    let new = g.D.Disk.contents c.make-order.new.disk in
    subst (λ (r : Asked). IsLook r.id.call → new ≡ old) c.request.view_is
    (λ looks. makes_nothing (call_of c.request.inside.order) (bytes_of c.request.inside.order) c.request.inside.slot old new looks c.make-order.ensures.torn)

pub returns-clause-others : goal.returns-clause-others
returns-clause-others g c =
    let old = g.D.Disk.contents c.args.disk.now in
    let new = g.D.Disk.contents c.make-order.new.disk in
    subst (λ (r : Asked). (other : ℕ) → other ≢ r.id.slot → file_at new other ≡ file_at old other) c.request.view_is
    (λ other apart. makes_elsewhere (call_of c.request.inside.order) (bytes_of c.request.inside.order) c.request.inside.slot old new other apart c.make-order.ensures.torn)

use Rattle.std.proofs.Common.{◌≡◌, ℕ, ◌+◌, ◌<◌, ◌≤◌, length, Some, None, IsSome, slice_index_or, slice_set, refl, sym, ◌∙◌, ap, subst, arith}
use Rattle.std.proofs.lemmas.Option.{same_Some, slice_get-get_or}
use Rattle.sd_chain.specs.Catalog.{Opened, place_of}
use Rattle.sd_gate.specs.declared.request_id.RequestId.{RequestId}
use Rattle.sd_gate.specs.declared.worker.Worker.TheVariants as its
use Rattle.sd_gate.specs.Phases.{state_of}
use Rattle.sd_merge.specs.declared.copy_order.CopyOrder.{CopyOrder}
use Rattle.sd_merge.specs.Copying.{begun_copy}
use Rattle.sd_merge.specs.Merger as merger
use Rattle.sd_merge.specs.Merger.{copying, slot_before, slot_to_begin}
use Rattle.sd_rounds.specs.Dumper.{HasSlot}
use Rattle.sd_crash_safety.specs.View.{CoreView}
use Rattle.sd_core.specs.declared.numbers.Numbers.{Numbers}
use Rattle.sd_core.specs.Sound.{ClosesWithHeader, IsDoing, serials_to_come}
use Rattle.sd_core.proofs.BesideLemmas.{core_asks, due_rests, merger_works, other_above}
use Rattle.sd_core.proofs.MarkLemmas.{counted_held, held_place}
use Rattle.sd_core.proofs.MergerSteps.{asks_header, asks_own, begun_sound}
use Rattle.sd_core.proofs.OwnLemmas.{spared_of}
use Rattle.sd_core.proofs.WorkLemmas.{at_work, held_more, open_more, ticked}
use Rattle.sd_core.specs.Next.{begins_image}
use Rattle.sd_core.specs.Refusals.{work_refusal}
use Rattle.sd_merge.specs.declared.merge_step.MergeStep.TheVariants as merge_step
use Rattle.sd_merge.specs.Copying.{Steps as StepsCopy}
use Rattle.sd_core.specs.Flags.{ticket_after}
use Rattle.sd_core.proofs.CoreParts.{parts_of}
use Rattle.sd_core.proofs.NextMerger.{begun_copy_seen, merger_seen}
use Rattle.sd_core.proofs.state.Core.begin_merged.Goals as goal

pub invariant_of-self-2 : goal.invariant_of-self-2
invariant_of-self-2 c =
    let old = c.self.inside.numbers in
    let serial = old.serial + 1 in
    let w = c.begin_copy-request.ensures in
    let m = merger_works _ w.merge c.self.invariant w.was in
    let d = subst (IsDoing c.self.inside.phases.items c.self.inside.catalog old c.self.inside.room c.self.inside.dumper.running w.merge) w.must_dump m.doing in
    let order = merger.order_of w.merge serial c.state.result in
    let own = asks_own (begun_copy order) w.copy c.begin_copy-request.result (begun_sound order) w.steps.0 in
    let begun = (ticked _ _ c.tick.ensures).begun ∙ ap (λ (n : Numbers). n.begun) c.give.ensures in
    let checkpoint = (ticked _ _ c.tick.ensures).checkpoint ∙ ap (λ (n : Numbers). n.checkpoint) c.give.ensures in
    let given = (ticked _ _ c.tick.ensures).given ∙ ap (λ (n : Numbers). n.given) c.give.ensures in
    let now = (ticked _ _ c.tick.ensures).serial ∙ ap (λ (n : Numbers). n.serial) c.give.ensures in
    let above = c.self.invariant.numbers_are.serials in
    let own_serial = ap (λ (o : CopyOrder). o.serial) own.order in
    let counted = m.counted in
    let out : merger.out_in (copying w.copy) ≡ Some c.begin_copy-request.result.id = own.out in
    let new_serial : (o : Opened) → place_of c.self.inside.catalog serial ≡ Some (Some o) → ⊥ =
    (λ o is. let double = c.hold.ensures.double.1 (subst IsSome (sym is) refl) in cc) in
    core_asks _ c.put_out.new.outs c.hold.new.self c.tick.new.self (record w.merge { doing = copying w.copy }) c.begin_copy-request.new.merger c.begin_copy-request.result.id c.self.invariant
    m.stands m.closed w.is (due_rests _ w.merge c.self.invariant w.was w.must_dump) (c.put_out.ensures ∙ ap (λ id. slice_set c.self.inside.outs 1 (Some id)) c.id.ensures) out
    (subst (λ s. s < length c.self.inside.phases.items) (sym own.slot) m.within) w.steps.1.worker (spared_of c.self.inside.dumper.running _ (λ has. m.spared (subst (HasSlot c.self.inside.dumper.running) own.slot has)))
    (record {
      begun = begun;
      given = omega (arith, given, above);
      checkpoint = checkpoint;
      above = omega (arith, given, now);
      serials = λ running runs. (let before = (at_work _ running c.self.invariant runs).serials in let due_is = ap serials_to_come w.was ∙ ap (λ doing. serials_to_come (Some (record w.merge { doing = doing }))) w.must_dump in omega (arith, before, due_is, now));
      held = λ running image runs making held. held_more c.self.inside.catalog c.hold.new.self serial image.order.serial c.in-Ok.ensures.held held;
      stay = λ number o at has. open_more c.self.inside.catalog c.hold.new.self serial number o c.in-Ok.ensures.held new_serial at;
    })
    (subst (λ n. (s : ℕ) (o : Opened) → place_of c.hold.new.self s ≡ Some (Some o) → o.header.checkpoint ≤ n) (sym checkpoint)
    (counted_held old c.self.inside.catalog c.hold.new.self serial c.in-Ok.ensures.held c.self.invariant.counted))
    (record {
      stands = m.stands;
      closed = m.closed;
      within = m.within;
      spared = m.spared;
      counted = omega (arith, counted, checkpoint);
      asks = λ id at. spared_of c.self.inside.dumper.running id.slot
          (λ has. m.spared (subst (HasSlot c.self.inside.dumper.running) (ap (λ (i : RequestId). i.slot) (sym (same_Some c.begin_copy-request.result.id id (sym out ∙ at))) ∙ own.slot) has));
      syncs = λ id at sync has. m.spared (subst (HasSlot c.self.inside.dumper.running) (ap (λ (i : RequestId). i.slot) (sym (same_Some c.begin_copy-request.result.id id (sym out ∙ at))) ∙ own.slot) has);
      doing = (
        record {
          header = subst (λ o. ClosesWithHeader o w.copy.stage) (sym own.order) (asks_header (begun_copy order) w.copy c.begin_copy-request.result w.steps.0 tt);
          given = omega (arith, given, own_serial);
          held = subst (λ s. place_of c.hold.new.self s ≡ Some None) (sym own_serial) (held_place c.self.inside.catalog c.hold.new.self serial c.in-Ok.ensures.held);
          other = other_above _ w.copy.order.serial c.self.invariant (omega (arith, own_serial, above));
        },
        d.1,
      );
    })

pub returns : goal.returns
returns c =
    let serial = c.self.inside.numbers.serial + 1 in
    let w = c.begin_copy-request.ensures in
    let m = merger_works _ w.merge c.self.invariant w.was in
    let at : w.merge.slot ≡ c.args.slot = same_Some w.merge.slot c.args.slot (sym (ap (slot_to_begin w.merge) w.must_dump) ∙ sym (ap slot_before w.was)
    ∙ ap (λ (v : CoreView). slot_before v.merger) c.self.view_is ∙ c.requires.next) in
    let phase = slice_index_or c.self.inside.phases.items w.merge.slot c.index.result.now in
    let state = c.state.ensures ∙ ap state_of c.index.ensures ∙ ap (λ k. state_of (slice_index_or c.self.inside.phases.items k c.index.result.now)) (sym at) in
    let gave = c.give.ensures in
    let t = (ticked _ _ c.tick.ensures) in
    merger_seen _ _ _ _ c.self.view_is (begins_image c.begin_copy-request.result refl (record {
      may = subst (λ v. work_refusal v its.Merger ≡ None) (sym c.self.view_is) c.requires.may;
      merge = w.merge;
      was = w.was;
      none = w.must_dump;
      phase = phase;
      phase_is = slice_get-get_or c.self.inside.phases.items w.merge.slot c.index.result.now m.within;
      places = c.hold.new.self;
      held = c.in-Ok.ensures.held;
      next = w.copy;
      steps = subst (λ s. StepsCopy c.self.inside.numbers.ticket c.hold.new.self (begun_copy (merger.order_of w.merge serial s)) (merge_step.Call c.begin_copy-request.result) w.copy) state w.steps;
      new_is = begun_copy_seen (parts_of c.self.inside) c.put_out.new.outs (slice_set c.self.inside.outs 1 (Some c.begin_copy-request.result.id)) c.hold.new.self c.begin_copy-request.new.merger
          (Some (record w.merge { doing = copying w.copy })) c.tick.new.self (c.put_out.ensures ∙ ap (λ id. slice_set c.self.inside.outs 1 (Some id)) c.id.ensures) w.is
          (t.begun ∙ ap (λ (n : Numbers). n.begun) gave) (t.given ∙ ap (λ (n : Numbers). n.given) gave) (t.checkpoint ∙ ap (λ (n : Numbers). n.checkpoint) gave)
          (t.serial ∙ ap (λ (n : Numbers). n.serial) gave) (t.ticket ∙ ap (λ (n : Numbers). ticket_after n.ticket) gave);
    }))

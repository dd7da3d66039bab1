use Rattle.std.proofs.Common.{◌≡◌, ℕ, ◌+◌, ◌^◌, ◌≤◌, ◌||◌, ◌&&◌, ◌∷◌, Some, None, IsSome, IfSome, slice_index_or, slice_set, refl, sym, ◌∙◌, ap, subst, arith, if◌then◌else◌}
use Rattle.std.proofs.lemmas.Option.{same_Some, slice_get-get_or}
use Rattle.std.proofs.Math.Bool.{and-false}
use Rattle.sd_chain.specs.Catalog.{Opened, place_of}
use Rattle.sd_gate.specs.Phases.{state_of}
use Rattle.sd_gate.specs.declared.request_id.RequestId.{RequestId}
use Rattle.sd_gate.specs.declared.worker.Worker.TheVariants as its
use Rattle.sd_journal.specs.declared.mark.Mark.TheVariants.{Start}
use Rattle.sd_journal.specs.History.{Base}
use Rattle.sd_journal.specs.Legal.{IsAbove}
use Rattle.sd_journal.specs.Marked.{Noted, entries_of}
use Rattle.sd_merge.specs.Merger as merger
use Rattle.sd_rounds.specs.declared.image_order.ImageOrder.{ImageOrder}
use Rattle.sd_crash_safety.specs.Merges.{IsSpared}
use Rattle.sd_rounds.specs.Dumper.{AreRunning, HasSlot, is_dumping, is_frozen_image, is_last, next_slot, order_of, slot_of}
use Rattle.sd_rounds.specs.Making.{Making, begun_image, out_of, Steps as StepsImage}
use Rattle.sd_rounds.specs.Writes.{no_writes}
use Rattle.sd_crash_safety.specs.DumperSteps.{opens_gate, commits_dump}
use Rattle.sd_core.proofs.FlagLemmas.{format_has_no_open, gate_swept, gated_asked, sure_asked}
use Rattle.sd_core.specs.Grown.{IsGatedStage, has_grown, has_visited_all}
use Rattle.sd_core.specs.declared.numbers.Numbers.{Numbers}
use Rattle.sd_core.specs.Images.{begun_as}
use Rattle.sd_core.specs.LittleWork.{TakesLittle}
use Rattle.sd_core.specs.Sound.{AreOuts, AreSoundNumbers, IsImageInMaking, IsJournal, begun_images, serials_to_come}
use Rattle.sd_core.specs.Starts.{base_of}
use Rattle.sd_core.proofs.ImageLemmas.{begun_asked}
use Rattle.sd_core.proofs.LittleLemmas.{begun_little}
use Rattle.sd_journal.proofs.MarkedLemmas.{no_visit as none_visited}
use Rattle.sd_core.proofs.MarkLemmas.{counted_held, held_place, next_is, sound_image, start_numbers}
use Rattle.sd_core.proofs.MergeLemmas.{asks_apart, fills_same, merging_stays}
use Rattle.sd_core.proofs.OutsLemmas.{dumper_outs, on_slot, open_outs}
use Rattle.sd_core.proofs.PreDumpLemmas.{change_stays, pre_dumps_stay}
use Rattle.sd_core.proofs.SettledLemmas.{swept_same}
use Rattle.sd_core.proofs.WorkLemmas.{asked_on, at_work, core_working, grown_core, held_at_work, held_same, held_more, merger_out, noted_journal, open_more, rests_before, slot_within, sound_writes, ticked}
use Rattle.sd_gate.specs.declared.worker.Worker.TheVariants.{Dumper}
use Rattle.sd_rounds.specs.declared.image_step.ImageStep.TheVariants as image_step
use Rattle.sd_core.specs.Flags.{ticket_after}
use Rattle.sd_core.specs.Next.{begins_image}
use Rattle.sd_core.specs.Refusals.{work_refusal}
use Rattle.sd_core.proofs.CoreParts.{parts_of}
use Rattle.sd_core.proofs.NextOrders.{dumper_seen}
use Rattle.sd_core.proofs.NextSteps.{begun_image_seen}
use Rattle.sd_core.proofs.state.Core.begin_image.Goals as goal

pub overflow_add-serial : goal.overflow_add-serial
overflow_add-serial c =
    let n = next_is c.self.inside.dumper.running c.args.slot (ap (λ v. next_slot v.dumper.running) c.self.view_is ∙ c.requires.next) in
    let work = at_work _ n.running c.self.invariant n.was in
    let few = work.few in
    let opened = (subst (AreRunning c.self.inside.dumper.since_freeze) n.was c.sound.ensures.running).few in
    let serials : c.self.inside.numbers.serial + serials_to_come c.self.inside.merger ≤ 2 ^ 63 + n.running.opened = subst (λ i. c.self.inside.numbers.serial + serials_to_come c.self.inside.merger ≤ 2 ^ 63 + begun_images n.running i) n.none work.serials in
    omega (arith, serials, few, opened)

pub index-requires : goal.index-requires
index-requires c =
    let n = next_is c.self.inside.dumper.running c.args.slot (ap (λ v. next_slot v.dumper.running) c.self.view_is ∙ c.requires.next) in
    let within = slot_within _ n.running c.self.invariant n.was in
    let slot = n.slot_is in
    let count = c.self.inside.phases.ok.0 in
    omega (arith, within, slot, count)

pub give-requires : goal.give-requires
give-requires c =
    let n = next_is c.self.inside.dumper.running c.args.slot (ap (λ v. next_slot v.dumper.running) c.self.view_is ∙ c.requires.next) in
    let work = at_work _ n.running c.self.invariant n.was in
    let few = work.few in
    let opened = (subst (AreRunning c.self.inside.dumper.since_freeze) n.was c.sound.ensures.running).few in
    let serials : c.self.inside.numbers.serial + serials_to_come c.self.inside.merger ≤ 2 ^ 63 + n.running.opened = subst (λ i. c.self.inside.numbers.serial + serials_to_come c.self.inside.merger ≤ 2 ^ 63 + begun_images n.running i) n.none work.serials in
    omega (arith, serials, few, opened)

pub invariant_of-self-2 : goal.invariant_of-self-2
invariant_of-self-2 c =
    let base : Base = base_of c.self.inside.base in
    let old = c.self.inside.numbers in
    let serial = old.serial + 1 in
    let w = c.begin_next-request.ensures in
    let core = grown_core _ c.reserve_mark.new.self c.self.invariant c.in-Ok.ensures.grown in
    let work = at_work _ w.running core w.was in
    let begun = (ticked _ _ c.tick.ensures).begun ∙ ap (λ (n : Numbers). n.begun) c.give.ensures in
    let checkpoint = (ticked _ _ c.tick.ensures).checkpoint ∙ ap (λ (n : Numbers). n.checkpoint) c.give.ensures in
    let given = (ticked _ _ c.tick.ensures).given ∙ ap (λ (n : Numbers). n.given) c.give.ensures in
    let now = (ticked _ _ c.tick.ensures).serial ∙ ap (λ (n : Numbers). n.serial) c.give.ensures in
    let above = core.numbers_are.serials in
    let fresh = core.numbers_are.marks serial (omega (arith, above)) in
    let t = begun_asked c.reserve_mark.new.self.items c.hold.new.self c.tick.new.self (order_of w.running serial c.state.result) w.next c.begin_next-request.result
    (omega (arith, given)) (held_place c.self.inside.catalog c.hold.new.self serial c.in-Ok-hold.ensures.held) (none_visited c.reserve_mark.new.self.items serial fresh) w.steps.0 in
    let within = slot_within _ w.running core w.was in
    let asked = asked_on w.running (begun_image (order_of w.running serial c.state.result)) w.next _ t.out_is t.slot refl in
    let whose = subst (λ o. IfSome o (λ (i : RequestId). i.worker ≡ its.Dumper)) (sym t.out_is) w.steps.1.worker in
    let writes = sound_writes w.running w.next (ap (λ (o : ImageOrder). o.slot) t.order) (sound_image _ (record w.running { image = Some w.next }) w.next c.sound-2.ensures.image w.is refl) in
    let serials : old.serial + serials_to_come c.self.inside.merger ≤ 2 ^ 63 + w.running.opened = subst (λ i. old.serial + serials_to_come c.self.inside.merger ≤ 2 ^ 63 + begun_images w.running i) w.none work.serials in
    let few = work.few in
    let opened = (subst (AreRunning c.self.inside.dumper.since_freeze) w.was c.sound.ensures.running).few in
    let new_serial : (o : Opened) → place_of c.self.inside.catalog serial ≡ Some (Some o) → ⊥ =
    (λ o is. let double = c.hold.ensures.double.1 (subst IsSome (sym is) refl) in cc) in
    core_working _ _ w.is (record {
      journal_is = subst (λ m. IsJournal base c.note.new.self m c.self.inside.pending c.self.inside.last) (sym w.steps.2)
          (noted_journal base c.reserve_mark.new.self c.note.new.self c.self.inside.memory c.self.inside.memory c.self.inside.pending c.self.inside.last (Start serial)
          c.note.ensures.items c.note.ensures.numbers.first c.note.ensures.numbers.limit
          (c.journal_laws.ensures.tracked.started base c.reserve_mark.new.self.items c.self.inside.memory serial core.journal_is.tracked fresh) core.journal_is);
      held = c.note.ensures.held ∙ held_at_work _ w.running core w.was ∙ held_same c.self.inside.pending w.running (record w.running { image = Some w.next }) None;
      outs_are = subst (λ st. AreOuts st c.put_out.new.outs c.self.inside.phases.items (Some (record w.running { image = Some w.next })) c.self.inside.merger None) (sym work.stands)
          (open_outs c.put_out.new.outs c.self.inside.phases.items (Some (record w.running { image = Some w.next })) c.self.inside.merger
          (c.put_out.ensures ∙ ap (λ id. slice_set c.self.inside.outs 0 (Some id)) c.id.ensures ∙ ap (λ all. slice_set all 0 (Some c.begin_next-request.result.id)) (rests_before _ w.running core w.was w.none)
          ∙ ap (λ o. o ∷ merger.out_of_merge c.self.inside.merger ∷ None ∷ no_writes) (sym t.out_is)
          ∙ ap (λ all. out_of w.next.stage ∷ merger.out_of_merge c.self.inside.merger ∷ None ∷ all) (sym (ap (λ (m : Making). m.writes) w.steps.0.is)))
          (dumper_outs c.self.inside.phases.items (record w.running { image = Some w.next }) within asked whose writes)
          (λ id is. merger_out _ id core work.stands is)
          (λ id other one two. asks_apart _ w.running id other core w.was (on_slot (record w.running { image = Some w.next }) id asked writes one) two));
      numbers_are = subst (λ all. AreSoundNumbers base all c.self.inside.pending c.self.inside.last c.tick.new.self) (sym c.note.ensures.items)
          (start_numbers base c.reserve_mark.new.self.items c.self.inside.pending c.self.inside.last old c.tick.new.self begun checkpoint given now core.numbers_are);
      visited_is = swept_same c.self.inside.swept c.self.inside.swept c.self.inside.pending c.self.inside.pending c.self.inside.memory c.begin_next-request.new.memory refl refl w.steps.2 core.visited_is;
      flags_are = record {
        grown = core.flags_are.grown ∙ ap (λ all. has_grown base (entries_of all)) (sym c.note.ensures.items);
        visited_by = core.flags_are.visited_by ∙ ap has_visited_all (sym c.note.ensures.items);
        sure = λ commits. sure_asked c.self.inside.committing (is_last w.running) (opens_gate c.begin_next-request.result.id.call) c.self.inside.swept core.flags_are.sure
            (gate_swept (is_last w.running) c.self.inside.swept (begun_image (order_of w.running serial c.state.result)).stage w.steps.0.plan w.steps.0.next c.begin_next-request.result
            (format_has_no_open c.state.result) w.steps.0.was w.steps.0.gives)
            (sym (c.is_committing-self-inside.ensures ∙ ap (λ r. c.self.inside.committing || is_dumping r && opens_gate c.id-2.result.call) w.is
            ∙ ap (λ (i : RequestId). c.self.inside.committing || is_last w.running && opens_gate i.call) c.id-2.ensures) ∙ commits);
      };
      gated = subst (IsGatedStage (is_last w.running) c.self.inside.swept) (sym (ap (λ (m : Making). m.stage) w.steps.0.is))
          (gated_asked (is_last w.running) c.self.inside.swept (begun_image (order_of w.running serial c.state.result)).stage w.steps.0.plan w.steps.0.next c.begin_next-request.result
          (format_has_no_open c.state.result) w.steps.0.was w.steps.0.gives);
      counted = subst (λ n. (s : ℕ) (o : Opened) → place_of c.hold.new.self s ≡ Some (Some o) → o.header.checkpoint ≤ n) (sym checkpoint)
          (counted_held old c.self.inside.catalog c.hold.new.self serial c.in-Ok-hold.ensures.held core.counted);
      work = record {
        stands = work.stands;
        closed = work.closed;
        pends = work.pends ∙ ap (λ i. if is_frozen_image i then Some w.running.number else None) w.none ∙ ap (λ b. if b then Some w.running.number else None) (sym (t.still ∙ and-false _));
        above = λ none. subst (λ all. IsAbove base all w.running.number) (sym (ap entries_of c.note.ensures.items)) (work.above none);
        some = work.some;
        number = work.number ∙ sym begun;
        few = work.few;
        serials = omega (arith, now, serials);
        within = λ slot reserved. work.within slot (record { place = reserved.place; from = reserved.from; is = reserved.is });
        apart = work.apart;
        pre_dumps = pre_dumps_stay (begun_as w.running) c.self.inside.catalog c.hold.new.self w.running.opened w.running.parent
            (change_stays (begun_as w.running) c.self.inside.catalog c.hold.new.self serial w.running.opened (Some None) c.in-Ok-hold.ensures.held new_serial) work.pre_dumps;
        asked = asked;
        whose = whose;
        writes = writes;
        image = subst (λ all. IsImageInMaking all c.hold.new.self c.tick.new.self w.next) (sym c.note.ensures.items) t.image_is;
      };
      little = subst (λ all. TakesLittle base all c.begin_next-request.new.memory w.running.number w.next) (sym c.note.ensures.items)
          (begun_little c.journal_laws.ensures.little base c.reserve_mark.new.self.items c.self.inside.memory c.begin_next-request.new.memory w.running.number _ (order_of w.running serial c.state.result) w.next
          c.begin_next-request.result w.steps fresh (t.still ∙ and-false _));
      merging = merging_stays _ c.self.inside.phases.items c.hold.new.self c.tick.new.self (Some (record w.running { image = Some w.next })) core (record {
        count = refl;
        given = omega (arith, given, above);
        checkpoint = omega (arith, checkpoint);
        serials = λ merge is due under. (let one = ap serials_to_come is ∙ due in omega (arith, now, serials, one, few, opened));
        has = λ slot has. subst (λ r. HasSlot r slot) (sym w.was) has;
        fills = λ slot spared. fills_same w.running (Some w.next) slot (subst (λ r. IsSpared r slot) w.was spared);
        other = λ s given_to other same. (let own = ap (λ (o : ImageOrder). o.serial) t.order in omega (arith, same, own, given_to, above));
        held = λ s given_to other held. held_more c.self.inside.catalog c.hold.new.self serial s c.in-Ok-hold.ensures.held held;
        images = λ s o there spared. open_more c.self.inside.catalog c.hold.new.self serial s o c.in-Ok-hold.ensures.held new_serial there;
      });
    })

pub returns : goal.returns
returns c =
    let serial = c.self.inside.numbers.serial + 1 in
    let w = c.begin_next-request.ensures in
    let within = slot_within _ w.running c.self.invariant w.was in
    let n = next_is c.self.inside.dumper.running c.args.slot (ap (λ v. next_slot v.dumper.running) c.self.view_is ∙ c.requires.next) in
    let same = same_Some n.running w.running (sym n.was ∙ w.was) in
    let at : slot_of w.running ≡ c.args.slot = sym (ap slot_of same) ∙ n.slot_is in
    let phase = slice_index_or c.self.inside.phases.items (slot_of w.running) c.index.result.now in
    let state = c.state.ensures ∙ ap state_of c.index.ensures ∙ ap (λ k. state_of (slice_index_or c.self.inside.phases.items k c.index.result.now)) (sym at) in
    let grown = c.in-Ok.ensures.grown in
    let gave = c.give.ensures in
    let t = (ticked _ _ c.tick.ensures) in
    dumper_seen _ _ _ _ c.self.view_is (begins_image c.begin_next-request.result refl (record {
      may = subst (λ v. work_refusal v Dumper ≡ None) (sym c.self.view_is) c.requires.may;
      running = w.running;
      was = w.was;
      none = w.none;
      phase = phase;
      phase_is = slice_get-get_or c.self.inside.phases.items (slot_of w.running) c.index.result.now within;
      places = c.hold.new.self;
      held = c.in-Ok-hold.ensures.held;
      next = w.next;
      steps = subst (λ s. StepsImage c.self.inside.numbers.ticket (begun_image (order_of w.running serial s)) c.self.inside.memory (image_step.Call c.begin_next-request.result) w.next c.self.inside.memory) state
          (w.steps.0, w.steps.1, refl);
      new_is = begun_image_seen (parts_of c.self.inside) c.note.new.self c.begin_next-request.new.memory c.put_out.new.outs (slice_set c.self.inside.outs 0 (Some c.begin_next-request.result.id)) c.hold.new.self
          c.begin_next-request.new.dumper c.self.inside.dumper.since_freeze (Some (record w.running { image = Some w.next })) c.is_committing-self-inside.result
          (c.self.inside.committing || commits_dump w.running c.begin_next-request.result.id.call) (Noted (Start serial) ∷ c.self.inside.journal.items) c.tick.new.self
          (c.note.ensures.items ∙ ap (λ all. Noted (Start serial) ∷ all) grown.items) (c.note.ensures.held ∙ grown.held) (c.note.ensures.numbers.limit ∙ grown.limit) w.steps.2
          (c.put_out.ensures ∙ ap (λ id. slice_set c.self.inside.outs 0 (Some id)) c.id.ensures) w.is w.counted
          (c.is_committing-self-inside.ensures ∙ ap (λ r. c.self.inside.committing || is_dumping r && opens_gate c.id-2.result.call) w.is
          ∙ ap (λ (i : RequestId). c.self.inside.committing || is_last w.running && opens_gate i.call) c.id-2.ensures)
          (t.begun ∙ ap (λ (n : Numbers). n.begun) gave) (t.given ∙ ap (λ (n : Numbers). n.given) gave) (t.checkpoint ∙ ap (λ (n : Numbers). n.checkpoint) gave)
          (t.serial ∙ ap (λ (n : Numbers). n.serial) gave) (t.ticket ∙ ap (λ (n : Numbers). ticket_after n.ticket) gave);
    }))

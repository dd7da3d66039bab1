use Rattle.std.proofs.Common.{◌≡◌, ◌+◌, ◌≤◌, ◌^◌, ◌||◌, ◌&&◌, Some, None, IfSome, is_some, slice_get, slice_set, ◌∷◌, refl, sym, ◌∙◌, ap, subst, arith, if◌then◌else◌}
use Rattle.std.proofs.lemmas.Option.{slice_get_within}
use Rattle.sd_gate.specs.declared.request_id.RequestId.{RequestId}
use Rattle.sd_gate.specs.declared.worker.Worker.TheVariants as its
use Rattle.sd_journal.specs.declared.entry.Entry.TheVariants.{Freeze}
use Rattle.sd_journal.specs.History.{Base}
use Rattle.sd_journal.specs.declared.mark.Mark.TheVariants.{Table}
use Rattle.sd_journal.specs.Marked.{Noted, Told, entries_of}
use Rattle.sd_rounds.specs.declared.image_step.ImageStep.TheVariants.{Call, PageCall, TableCall}
use Rattle.sd_merge.specs.Merger as merger
use Rattle.sd_rounds.specs.declared.image_order.ImageOrder.{ImageOrder}
use Rattle.sd_rounds.specs.Dumper.{is_dumping, is_last, slot_of}
use Rattle.sd_rounds.specs.Making.{Making, is_past_freeze}
use Rattle.sd_crash_safety.specs.DumperSteps.{opens_gate, commits_dump}
use Rattle.sd_crash_safety.specs.View.{page_lane}
use Rattle.sd_core.proofs.FlagLemmas.{gate_swept, gated_asked, gated_of, sure_asked, table_gated, table_sure, table_swept_by}
use Rattle.sd_core.specs.Grown.{IsGatedStage, has_grown, has_visited_all}
use Rattle.sd_core.specs.Dumping.{StepsOn}
use Rattle.sd_core.specs.Images.{begun_as}
use Rattle.sd_core.specs.LittleWork.{TakesLittle}
use Rattle.sd_core.specs.Sound.{AreSoundNumbers, IsImageInMaking, IsJournal, begun_images, serials_to_come, held_for}
use Rattle.sd_core.specs.Starts.{base_of}
use Rattle.sd_core.specs.Visited.{HasVisitedAll}
use Rattle.sd_core.proofs.ImageLemmas.{image_asked, image_frozen, image_page, image_table}
use Rattle.sd_core.proofs.LaneLemmas.{outs_asked, outs_kept, outs_writing}
use Rattle.sd_core.proofs.LittleLemmas.{freeze_little, little_of, step_little}
use Rattle.sd_core.proofs.MarkLemmas.{before_freeze, freeze_journal, freeze_numbers, frozen_next, sound_image, table_journal}
use Rattle.sd_core.proofs.PreDumpLemmas.{same_stay}
use Rattle.sd_core.proofs.WorkLemmas.{SameNumbers, asked_on, at_work, core_working, counted_same, grown_core, held_at_work, image_of_work, image_within, its_serial, merging_turned, numbers_noted, numbers_same, out_at_work, own_order, own_slot, same_numbers, same_places, sound_writes, turned, ticked}
use Rattle.sd_core.proofs.SettledLemmas.{none_swept, swept_same, unswept}
use Rattle.sd_core.proofs.SweptLemmas.{pends_last, table_swept}
use Rattle.sd_gate.specs.declared.worker.Worker.TheVariants.{Dumper}
use Rattle.sd_core.specs.Next.{asks, asks_page, asks_table, freezes}
use Rattle.sd_core.proofs.NextOrders.{dumper_seen}
use Rattle.sd_core.specs.Refusals.{work_refusal}
use Rattle.sd_core.proofs.CoreParts.{parts_of}
use Rattle.sd_core.proofs.NextSteps.{asked_seen, may_step, stepped_seen}
use Rattle.sd_core.proofs.state.Core.call_image.Goals as goal

pub invariant_of-self-in-Call : goal.invariant_of-self-in-Call
invariant_of-self-in-Call c =
    let base : Base = base_of c.self.inside.base in
    let w = subst (λ step. StepsOn c.self.inside.numbers.ticket c.self.inside.dumper c.self.inside.memory step c.step_on.new.dumper c.step_on.new.memory) c.in-Call.is c.in-Ok-step_on.ensures.steps in
    let core = grown_core _ c.reserve_mark.new.self c.self.invariant c.in-Ok.ensures.grown in
    let rests = ap (λ v. slice_get v.outs 0) c.self.view_is ∙ c.requires.rests in
    let out = out_at_work _ w.running None core w.was rests in
    let image = image_of_work _ w.running w.image core w.was w.making in
    let numbers : SameNumbers c.self.inside.numbers c.tick-in-Call.new.self = record { begun = (ticked _ _ c.tick-in-Call.ensures).begun; given = (ticked _ _ c.tick-in-Call.ensures).given; checkpoint = (ticked _ _ c.tick-in-Call.ensures).checkpoint; serial = (ticked _ _ c.tick-in-Call.ensures).serial } in
    let t = image_asked _ _ _ c.tick-in-Call.new.self w.image w.next c.in-Call.request numbers image w.steps.0 in
    core_working _ _ w.is (turned w.running w.image w.next core (record {
      was = w.was;
      making = w.making;
      is = w.is;
      serial = ap (λ (o : ImageOrder). o.serial) t.order;
      places_stay = same_places w.running c.self.inside.catalog;
      count = refl;
      same = numbers;
      entries = refl;
      held = refl;
      journal_is = subst (λ m. IsJournal base c.reserve_mark.new.self m c.self.inside.pending c.self.inside.last) (sym w.steps.2) core.journal_is;
      numbers_are = numbers_same base c.reserve_mark.new.self.items c.self.inside.pending c.self.inside.last c.self.inside.numbers c.tick-in-Call.new.self numbers core.numbers_are;
      flags_are = record {
        grown = core.flags_are.grown;
        visited_by = core.flags_are.visited_by;
        sure = λ commits. sure_asked c.self.inside.committing (is_last w.running) (opens_gate c.in-Call.request.id.call) c.self.inside.swept core.flags_are.sure
            (gate_swept (is_last w.running) c.self.inside.swept w.image.stage w.steps.0.plan w.steps.0.next c.in-Call.request (gated_of c.self.inside.swept c.self.inside.dumper.running w.running w.image core.gated w.was w.making) w.steps.0.was w.steps.0.gives)
            (sym (c.is_committing-self-inside.ensures ∙ ap (λ r. c.self.inside.committing || is_dumping r && opens_gate c.id-in-Call-2.result.call) w.is
            ∙ ap (λ (i : RequestId). c.self.inside.committing || is_last w.running && opens_gate i.call) c.id-in-Call-2.ensures) ∙ commits);
      };
      gated = subst (IsGatedStage (is_last w.running) c.self.inside.swept) (sym (ap (λ (m : Making). m.stage) w.steps.0.is))
          (gated_asked (is_last w.running) c.self.inside.swept w.image.stage w.steps.0.plan w.steps.0.next c.in-Call.request (gated_of c.self.inside.swept c.self.inside.dumper.running w.running w.image core.gated w.was w.making) w.steps.0.was w.steps.0.gives);
      visited_is = swept_same c.self.inside.swept c.self.inside.swept c.self.inside.pending c.self.inside.pending c.self.inside.memory c.step_on.new.memory refl refl w.steps.2 core.visited_is;
      counted = counted_same c.self.inside.catalog c.self.inside.numbers c.tick-in-Call.new.self numbers core.counted;
      outs_are = c.put_out-in-Call.ensures ∙ ap (λ id. slice_set c.self.inside.outs 0 (Some id)) c.id-in-Call.ensures
          ∙ outs_asked w.running w.image w.next (merger.out_of_merge c.self.inside.merger) c.self.inside.outs out.1 w.making c.in-Call.request.id (ap (λ (m : Making). m.writes) w.steps.0.is) t.out_is;
      whose = subst (λ o. IfSome o (λ i. i.worker ≡ its.Dumper)) (sym t.out_is) w.steps.1.worker;
      writes = sound_writes w.running w.next (ap (λ (o : ImageOrder). o.slot) t.order ∙ own_slot c.self.inside.dumper.since_freeze _ w.running w.image c.sound.ensures.running w.was w.making) (sound_image _ (record w.running { image = Some w.next }) w.next c.sound-2.ensures.image w.is refl);
      stay = same_stay (begun_as w.running) c.self.inside.catalog w.running.opened;
      asked = asked_on w.running w.image w.next _ t.out_is t.slot (own_slot c.self.inside.dumper.since_freeze _ w.running w.image c.sound.ensures.running w.was w.making);
      image_is = t.image_is;
      still = t.still;
      little = step_little c.journal_laws.ensures.little base c.reserve_mark.new.self.items c.reserve_mark.new.self.items c.self.inside.memory c.step_on.new.memory w.running.number c.self.inside.numbers.ticket w.image w.next (Call c.in-Call.request) w.steps
          (sound_image _ w.running w.image c.sound.ensures.image w.was w.making).rising t.still refl refl (little_of base c.reserve_mark.new.self.items c.self.inside.memory c.self.inside.dumper.running w.running w.image core.little w.was w.making);
    }))

pub invariant_of-self-in-PageCall : goal.invariant_of-self-in-PageCall
invariant_of-self-in-PageCall c =
    let base : Base = base_of c.self.inside.base in
    let w = subst (λ step. StepsOn c.self.inside.numbers.ticket c.self.inside.dumper c.self.inside.memory step c.step_on.new.dumper c.step_on.new.memory) c.in-PageCall.is c.in-Ok-step_on.ensures.steps in
    let core = grown_core _ c.reserve_mark.new.self c.self.invariant c.in-Ok.ensures.grown in
    let rests = ap (λ v. slice_get v.outs 0) c.self.view_is ∙ c.requires.rests in
    let out = out_at_work _ w.running None core w.was rests in
    let image = image_of_work _ w.running w.image core w.was w.making in
    let numbers : SameNumbers c.self.inside.numbers c.tick.new.self = record { begun = (ticked _ _ c.tick.ensures).begun; given = (ticked _ _ c.tick.ensures).given; checkpoint = (ticked _ _ c.tick.ensures).checkpoint; serial = (ticked _ _ c.tick.ensures).serial } in
    let t = image_page _ _ _ c.tick.new.self w.image w.next c.in-PageCall.lane c.in-PageCall.request numbers image w.steps.0 in
    core_working _ _ w.is (turned w.running w.image w.next core (record {
      was = w.was;
      making = w.making;
      is = w.is;
      serial = ap (λ (o : ImageOrder). o.serial) t.order;
      places_stay = same_places w.running c.self.inside.catalog;
      count = refl;
      same = numbers;
      entries = refl;
      held = refl;
      journal_is = subst (λ m. IsJournal base c.reserve_mark.new.self m c.self.inside.pending c.self.inside.last) (sym w.steps.2) core.journal_is;
      numbers_are = numbers_same base c.reserve_mark.new.self.items c.self.inside.pending c.self.inside.last c.self.inside.numbers c.tick.new.self numbers core.numbers_are;
      flags_are = core.flags_are;
      gated = subst (IsGatedStage (is_last w.running) c.self.inside.swept) (sym (w.steps.0.still)) tt;
      visited_is = swept_same c.self.inside.swept c.self.inside.swept c.self.inside.pending c.self.inside.pending c.self.inside.memory c.step_on.new.memory refl refl w.steps.2 core.visited_is;
      counted = counted_same c.self.inside.catalog c.self.inside.numbers c.tick.new.self numbers core.counted;
      outs_are = c.put_out.ensures ∙ ap (λ k. slice_set c.self.inside.outs k (Some c.id.result)) c.page_lane.ensures.lane ∙ ap (λ id. slice_set c.self.inside.outs (page_lane c.in-PageCall.lane) (Some id)) c.id.ensures
          ∙ outs_writing w.running w.image w.next (merger.out_of_merge c.self.inside.merger) c.self.inside.outs out.1 w.making c.in-PageCall.lane c.in-PageCall.request.id w.steps.0.writes t.out_is;
      whose = subst (λ o. IfSome o (λ i. i.worker ≡ its.Dumper)) (sym t.out_is) tt;
      writes = sound_writes w.running w.next (ap (λ (o : ImageOrder). o.slot) t.order ∙ own_slot c.self.inside.dumper.since_freeze _ w.running w.image c.sound.ensures.running w.was w.making) (sound_image _ (record w.running { image = Some w.next }) w.next c.sound-2.ensures.image w.is refl);
      stay = same_stay (begun_as w.running) c.self.inside.catalog w.running.opened;
      asked = asked_on w.running w.image w.next _ t.out_is t.slot (own_slot c.self.inside.dumper.since_freeze _ w.running w.image c.sound.ensures.running w.was w.making);
      image_is = t.image_is;
      still = t.still;
      little = step_little c.journal_laws.ensures.little base c.reserve_mark.new.self.items c.reserve_mark.new.self.items c.self.inside.memory c.step_on.new.memory w.running.number c.self.inside.numbers.ticket w.image w.next (PageCall c.in-PageCall.lane c.in-PageCall.request) w.steps
          (sound_image _ w.running w.image c.sound.ensures.image w.was w.making).rising t.still refl refl (little_of base c.reserve_mark.new.self.items c.self.inside.memory c.self.inside.dumper.running w.running w.image core.little w.was w.making);
    }))

pub invariant_of-self-in-TableCall : goal.invariant_of-self-in-TableCall
invariant_of-self-in-TableCall c =
    let base : Base = base_of c.self.inside.base in
    let w = subst (λ step. StepsOn c.self.inside.numbers.ticket c.self.inside.dumper c.self.inside.memory step c.step_on.new.dumper c.step_on.new.memory) c.in-TableCall.is c.in-Ok-step_on.ensures.steps in
    let core = grown_core _ c.reserve_mark.new.self c.self.invariant c.in-Ok.ensures.grown in
    let rests = ap (λ v. slice_get v.outs 0) c.self.view_is ∙ c.requires.rests in
    let out = out_at_work _ w.running None core w.was rests in
    let image = image_of_work _ w.running w.image core w.was w.making in
    let numbers : SameNumbers c.self.inside.numbers c.tick-in-TableCall.new.self = record { begun = (ticked _ _ c.tick-in-TableCall.ensures).begun; given = (ticked _ _ c.tick-in-TableCall.ensures).given; checkpoint = (ticked _ _ c.tick-in-TableCall.ensures).checkpoint; serial = (ticked _ _ c.tick-in-TableCall.ensures).serial } in
    let t = image_table _ _ _ c.tick-in-TableCall.new.self w.image w.next c.self.inside.memory c.in-TableCall.request numbers image w.steps.0 in
    let given = image.given in
    let own_serial = its_serial _ w.running w.next c.serial.result _ w.is c.serial.ensures c.in-Some.is ∙ ap (λ (o : ImageOrder). o.serial) t.order in
    let items = c.note.ensures.items ∙ ap (λ s. Noted (Table s) ∷ c.reserve_mark.new.self.items) own_serial in
    core_working _ _ w.is (turned w.running w.image w.next core (record {
      was = w.was;
      making = w.making;
      is = w.is;
      serial = ap (λ (o : ImageOrder). o.serial) t.order;
      places_stay = same_places w.running c.self.inside.catalog;
      count = refl;
      same = numbers;
      entries = ap entries_of items;
      held = c.note.ensures.held;
      journal_is = subst (λ m. IsJournal base c.note.new.self m c.self.inside.pending c.self.inside.last) (sym w.steps.2)
          (table_journal c.journal_laws.ensures.tracked _ w.running w.image w.next c.in-TableCall.request c.note.new.self core w.was w.making w.steps.0 items c.note.ensures.numbers.first c.note.ensures.numbers.limit);
      numbers_are = subst (λ all. AreSoundNumbers base all c.self.inside.pending c.self.inside.last c.tick-in-TableCall.new.self) (sym items)
          (numbers_same base _ c.self.inside.pending c.self.inside.last c.self.inside.numbers c.tick-in-TableCall.new.self numbers
          (numbers_noted base c.reserve_mark.new.self.items c.self.inside.pending c.self.inside.last c.self.inside.numbers (Table w.image.order.serial) (omega (arith, given)) core.numbers_are));
      flags_are = record {
        grown = core.flags_are.grown ∙ ap (λ all. has_grown base (entries_of all)) (sym items);
        visited_by = c.has_ended_its_pass-self-inside.ensures ∙ ap (λ r. c.self.inside.swept || is_dumping r) w.is
            ∙ table_swept_by c.self.inside.swept (is_last w.running) c.self.inside.pending (λ is. (core.visited_is is).0)
            (pends_last _ w.running w.image core w.was w.making (own_order c.self.inside.dumper.since_freeze _ w.running w.image c.sound.ensures.running w.was w.making) (ap is_past_freeze w.steps.0.stage))
            ∙ ap is_some core.journal_is.frozen_for ∙ ap has_visited_all (sym items);
        sure = λ commits. table_sure c.self.inside.committing (is_last w.running) (opens_gate c.in-TableCall.request.id.call) c.self.inside.swept c.has_ended_its_pass-self-inside.result
            (c.has_ended_its_pass-self-inside.ensures ∙ ap (λ r. c.self.inside.swept || is_dumping r) w.is) core.flags_are.sure
            (sym (c.is_committing-self-inside-in-TableCall.ensures ∙ ap (λ r. c.self.inside.committing || is_dumping r && opens_gate c.id-in-TableCall-2.result.call) w.is
            ∙ ap (λ (i : RequestId). c.self.inside.committing || is_last w.running && opens_gate i.call) c.id-in-TableCall-2.ensures) ∙ commits);
      };
      gated = subst (IsGatedStage (is_last w.running) c.has_ended_its_pass-self-inside.result) (sym (ap (λ (m : Making). m.stage) w.steps.0.is))
          (table_gated (is_last w.running) c.self.inside.swept c.has_ended_its_pass-self-inside.result (c.has_ended_its_pass-self-inside.ensures ∙ ap (λ r. c.self.inside.swept || is_dumping r) w.is));
      visited_is = subst (λ now. HasVisitedAll now c.self.inside.pending c.step_on.new.memory) (sym (c.has_ended_its_pass-self-inside.ensures ∙ ap (λ r. c.self.inside.swept || is_dumping r) w.is))
          (table_swept _ w.running w.image w.next c.in-TableCall.request c.step_on.new.memory _ core w.was w.making (own_order c.self.inside.dumper.since_freeze _ w.running w.image c.sound.ensures.running w.was w.making) w.steps.0 w.steps.2 t.still
          (step_little c.journal_laws.ensures.little base c.reserve_mark.new.self.items (Noted (Table w.image.order.serial) ∷ c.reserve_mark.new.self.items) c.self.inside.memory c.step_on.new.memory w.running.number c.self.inside.numbers.ticket w.image w.next (TableCall c.in-TableCall.request) w.steps
          (sound_image _ w.running w.image c.sound.ensures.image w.was w.making).rising t.still refl refl (little_of base c.reserve_mark.new.self.items c.self.inside.memory c.self.inside.dumper.running w.running w.image core.little w.was w.making)));
      counted = counted_same c.self.inside.catalog c.self.inside.numbers c.tick-in-TableCall.new.self numbers core.counted;
      outs_are = c.put_out-in-TableCall.ensures ∙ ap (λ id. slice_set c.self.inside.outs 0 (Some id)) c.id-in-TableCall.ensures
          ∙ outs_asked w.running w.image w.next (merger.out_of_merge c.self.inside.merger) c.self.inside.outs out.1 w.making c.in-TableCall.request.id (ap (λ (m : Making). m.writes) w.steps.0.is) t.out_is;
      whose = subst (λ o. IfSome o (λ i. i.worker ≡ its.Dumper)) (sym t.out_is) w.steps.1.worker;
      writes = sound_writes w.running w.next (ap (λ (o : ImageOrder). o.slot) t.order ∙ own_slot c.self.inside.dumper.since_freeze _ w.running w.image c.sound.ensures.running w.was w.making) (sound_image _ (record w.running { image = Some w.next }) w.next c.sound-2.ensures.image w.is refl);
      stay = same_stay (begun_as w.running) c.self.inside.catalog w.running.opened;
      asked = asked_on w.running w.image w.next _ t.out_is t.slot (own_slot c.self.inside.dumper.since_freeze _ w.running w.image c.sound.ensures.running w.was w.making);
      image_is = subst (λ all. IsImageInMaking all c.self.inside.catalog c.tick-in-TableCall.new.self w.next) (sym items) t.image_is;
      still = t.still;
      little = subst (λ all. TakesLittle base all c.step_on.new.memory w.running.number w.next) (sym items)
          (step_little c.journal_laws.ensures.little base c.reserve_mark.new.self.items (Noted (Table w.image.order.serial) ∷ c.reserve_mark.new.self.items) c.self.inside.memory c.step_on.new.memory w.running.number c.self.inside.numbers.ticket w.image w.next (TableCall c.in-TableCall.request) w.steps
          (sound_image _ w.running w.image c.sound.ensures.image w.was w.making).rising t.still refl refl (little_of base c.reserve_mark.new.self.items c.self.inside.memory c.self.inside.dumper.running w.running w.image core.little w.was w.making));
    }))

pub invariant_of-self-in-Frozen : goal.invariant_of-self-in-Frozen
invariant_of-self-in-Frozen c =
    let base : Base = base_of c.self.inside.base in
    let w = subst (λ step. StepsOn c.self.inside.numbers.ticket c.self.inside.dumper c.self.inside.memory step c.step_on.new.dumper c.step_on.new.memory) c.in-Frozen.is c.in-Ok-step_on.ensures.steps in
    let core = grown_core _ c.reserve_mark.new.self c.self.invariant c.in-Ok.ensures.grown in
    let rests = ap (λ v. slice_get v.outs 0) c.self.view_is ∙ c.requires.rests in
    let out = out_at_work _ w.running None core w.was rests in
    let image = image_of_work _ w.running w.image core w.was w.making in
    let within = image_within _ c.self.inside.dumper.since_freeze w.running w.image core c.sound.ensures.running w.was w.making in
    let b = before_freeze _ w.running w.image w.next core w.was w.making c.sound.ensures.image w.steps.0 in
    let work = at_work _ w.running core w.was in
    let t = image_frozen _ _ _ w.image w.next image w.steps.0 in
    let held = c.append_held.ensures.held in
    let two = held_at_work _ w.running core w.was ∙ ap (λ f. held_for f (Some w.running) None) b.none in
    let next = frozen_next w.image w.next b.kind w.steps.0 in
    let serials = subst (λ i. c.self.inside.numbers.serial + serials_to_come c.self.inside.merger ≤ 2 ^ 63 + begun_images w.running i) w.making work.serials in
    core_working _ _ w.is (record {
      journal_is = subst (λ m. IsJournal base c.append_held.new.self m (Some c.self.inside.numbers.begun) c.self.inside.last) (sym w.steps.1)
          (freeze_journal c.journal_laws.ensures.tracked _ w.running c.append_held.new.self core w.was b.none c.append_held.ensures.items c.append_held.ensures.numbers.first c.append_held.ensures.numbers.limit);
      held = omega (arith, held, two);
      outs_are = record {
        count = core.outs_are.count;
        jobs = λ stands. outs_kept w.running w.image w.next (merger.out_of_merge c.self.inside.merger) c.self.inside.outs out.1 w.making (ap (λ (m : Making). m.writes) w.steps.0.is) t.out_is;
        opening = tt;
        none = λ closed idle. core.outs_are.none closed work.closed;
        two = λ idle. core.outs_are.two work.closed;
        within = core.outs_are.within;
        whose = core.outs_are.whose;
        apart = core.outs_are.apart;
      };
      numbers_are = subst (λ all. AreSoundNumbers base all (Some c.self.inside.numbers.begun) c.self.inside.last c.self.inside.numbers) (sym c.append_held.ensures.items)
          (freeze_numbers base c.reserve_mark.new.self.items c.self.inside.last c.self.inside.numbers
          (subst (λ f. AreSoundNumbers base c.reserve_mark.new.self.items f c.self.inside.last c.self.inside.numbers) b.none core.numbers_are));
      flags_are = record { grown = core.flags_are.grown ∙ ap (λ all. has_grown base (entries_of all)) (sym c.append_held.ensures.items); visited_by = unswept c.self.inside.swept c.self.inside.pending c.self.inside.memory b.none core.visited_is ∙ ap has_visited_all (sym c.append_held.ensures.items); sure = core.flags_are.sure };
      gated = subst (IsGatedStage (is_last w.running) c.self.inside.swept) (sym (ap (λ (m : Making). m.stage) w.steps.0.is)) tt;
      visited_is = none_swept c.self.inside.swept c.self.inside.pending (Some c.self.inside.numbers.begun) c.self.inside.memory c.step_on.new.memory b.none core.visited_is;
      counted = core.counted;
      work = record {
        stands = work.stands;
        closed = work.closed;
        pends = ap Some (sym work.number) ∙ ap (λ b. if b then Some w.running.number else None) (sym next);
        above = λ is. absurd (let no : Some c.self.inside.numbers.begun ≡ None = is in cc);
        some = work.some;
        number = work.number;
        few = work.few;
        serials = serials;
        within = λ slot reserved. work.within slot (record { place = reserved.place; from = reserved.from; is = reserved.is });
        apart = work.apart;
        pre_dumps = work.pre_dumps;
        asked = subst (λ o. IfSome o (λ id. id.slot ≡ slot_of w.running)) (sym t.out_is) tt;
        whose = subst (λ o. IfSome o (λ i. i.worker ≡ its.Dumper)) (sym t.out_is) tt;
        writes = sound_writes w.running w.next (ap (λ (o : ImageOrder). o.slot) t.order ∙ own_slot c.self.inside.dumper.since_freeze _ w.running w.image c.sound.ensures.running w.was w.making) (sound_image _ (record w.running { image = Some w.next }) w.next c.sound-2.ensures.image w.is refl);
        image = subst (λ all. IsImageInMaking all c.self.inside.catalog c.self.inside.numbers w.next) (sym c.append_held.ensures.items) t.image_is;
      };
      little = subst (λ all. TakesLittle base all c.step_on.new.memory w.running.number w.next) (sym c.append_held.ensures.items)
          (subst (λ n. TakesLittle base (Told (Freeze n) ∷ c.reserve_mark.new.self.items) c.step_on.new.memory w.running.number w.next) work.number
          (freeze_little c.journal_laws.ensures.little base c.reserve_mark.new.self.items c.self.inside.memory c.step_on.new.memory w.running.number c.self.inside.numbers.ticket w.image w.next w.steps b.kind core.journal_is.tracked));
      merging = merging_turned _ c.self.inside.phases.items c.self.inside.catalog c.self.inside.numbers w.running w.image w.next core w.was w.making (ap (λ (o : ImageOrder). o.serial) t.order)
          (same_places w.running c.self.inside.catalog) refl (same_numbers _);
    })

-- ---- the step

pub returns-in-Frozen : goal.returns-in-Frozen
returns-in-Frozen c =
    let w = subst (λ step. StepsOn c.self.inside.numbers.ticket c.self.inside.dumper c.self.inside.memory step c.step_on.new.dumper c.step_on.new.memory) c.in-Frozen.is c.in-Ok-step_on.ensures.steps in
    let may = subst (λ v. work_refusal v Dumper ≡ None) (sym c.self.view_is) (may_step c.args.self.now c.requires.rests c.requires.runs c.requires.goes) in
    let grown = c.in-Ok.ensures.grown in
    let work = at_work _ w.running c.self.invariant w.was in
    let b = before_freeze _ w.running w.image w.next c.self.invariant w.was w.making c.sound.ensures.image w.steps.0 in
    let two = held_at_work _ w.running c.self.invariant w.was ∙ ap (λ f. held_for f (Some w.running) None) b.none in
    let less = c.append_held.ensures.held in
    let more = grown.held in
    let one : c.append_held.new.self.held ≡ 1 = omega (arith, less, more, two) in
    dumper_seen _ _ _ _ c.self.view_is (freezes refl (record {
      it = record { may = may; running = w.running; was = w.was; image = w.image; making = w.making; next = w.next; steps = (w.steps.0, refl) };
      new_is = stepped_seen (parts_of c.self.inside) c.append_held.new.self c.step_on.new.memory c.self.inside.outs c.self.inside.outs c.step_on.new.dumper 0 (Some (record w.running { image = Some w.next }))
          c.self.inside.committing c.self.inside.committing (Told (Freeze w.running.number) ∷ c.self.inside.journal.items) 1 (Some c.self.inside.numbers.begun) c.self.inside.swept
          (c.append_held.ensures.items ∙ ap (λ all. Told (Freeze c.self.inside.numbers.begun) ∷ all) grown.items ∙ ap (λ n. Told (Freeze n) ∷ c.self.inside.journal.items) (sym work.number))
          one (c.append_held.ensures.numbers.limit ∙ grown.limit) w.steps.1 refl w.is w.counted refl;
    }))

pub returns-in-TableCall : goal.returns-in-TableCall
returns-in-TableCall c =
    let w = subst (λ step. StepsOn c.self.inside.numbers.ticket c.self.inside.dumper c.self.inside.memory step c.step_on.new.dumper c.step_on.new.memory) c.in-TableCall.is c.in-Ok-step_on.ensures.steps in
    let may = subst (λ v. work_refusal v Dumper ≡ None) (sym c.self.view_is) (may_step c.args.self.now c.requires.rests c.requires.runs c.requires.goes) in
    let grown = c.in-Ok.ensures.grown in
    let t = (ticked _ _ c.tick-in-TableCall.ensures) in
    let own = its_serial _ w.running w.next c.serial.result _ w.is c.serial.ensures c.in-Some.is ∙ ap (λ (m : Making). m.order.serial) w.steps.0.is in
    dumper_seen _ _ _ _ c.self.view_is (asks_table c.in-TableCall.request refl (record {
      it = record { may = may; running = w.running; was = w.was; image = w.image; making = w.making; next = w.next; steps = (w.steps.0, w.steps.1, refl) };
      new_is = asked_seen (parts_of c.self.inside) c.note.new.self c.step_on.new.memory c.put_out-in-TableCall.new.outs (slice_set c.self.inside.outs 0 (Some c.in-TableCall.request.id)) c.step_on.new.dumper
          c.self.inside.dumper.since_freeze (Some (record w.running { image = Some w.next })) c.is_committing-self-inside-in-TableCall.result (c.self.inside.committing || commits_dump w.running c.in-TableCall.request.id.call)
          (Noted (Table w.image.order.serial) ∷ c.self.inside.journal.items) c.self.inside.journal.held c.has_ended_its_pass-self-inside.result c.tick-in-TableCall.new.self
          (c.note.ensures.items ∙ ap (λ s. Noted (Table s) ∷ c.reserve_mark.new.self.items) own ∙ ap (λ all. Noted (Table w.image.order.serial) ∷ all) grown.items)
          (c.note.ensures.held ∙ grown.held) (c.note.ensures.numbers.limit ∙ grown.limit) w.steps.2
          (c.put_out-in-TableCall.ensures ∙ ap (λ id. slice_set c.self.inside.outs 0 (Some id)) c.id-in-TableCall.ensures) w.is w.counted
          (c.is_committing-self-inside-in-TableCall.ensures ∙ ap (λ r. c.self.inside.committing || is_dumping r && opens_gate c.id-in-TableCall-2.result.call) w.is
          ∙ ap (λ (i : RequestId). c.self.inside.committing || is_last w.running && opens_gate i.call) c.id-in-TableCall-2.ensures)
          t.begun t.given t.checkpoint t.serial t.ticket;
    }))

pub returns-in-Call : goal.returns-in-Call
returns-in-Call c =
    let w = subst (λ step. StepsOn c.self.inside.numbers.ticket c.self.inside.dumper c.self.inside.memory step c.step_on.new.dumper c.step_on.new.memory) c.in-Call.is c.in-Ok-step_on.ensures.steps in
    let may = subst (λ v. work_refusal v Dumper ≡ None) (sym c.self.view_is) (may_step c.args.self.now c.requires.rests c.requires.runs c.requires.goes) in
    let grown = c.in-Ok.ensures.grown in
    let t = (ticked _ _ c.tick-in-Call.ensures) in
    dumper_seen _ _ _ _ c.self.view_is (asks c.in-Call.request refl (record {
      it = record { may = may; running = w.running; was = w.was; image = w.image; making = w.making; next = w.next; steps = (w.steps.0, w.steps.1, refl) };
      new_is = asked_seen (parts_of c.self.inside) c.reserve_mark.new.self c.step_on.new.memory c.put_out-in-Call.new.outs (slice_set c.self.inside.outs 0 (Some c.in-Call.request.id)) c.step_on.new.dumper
          c.self.inside.dumper.since_freeze (Some (record w.running { image = Some w.next })) c.is_committing-self-inside.result (c.self.inside.committing || commits_dump w.running c.in-Call.request.id.call)
          c.self.inside.journal.items c.self.inside.journal.held c.self.inside.swept c.tick-in-Call.new.self grown.items grown.held grown.limit w.steps.2
          (c.put_out-in-Call.ensures ∙ ap (λ id. slice_set c.self.inside.outs 0 (Some id)) c.id-in-Call.ensures) w.is w.counted
          (c.is_committing-self-inside.ensures ∙ ap (λ r. c.self.inside.committing || is_dumping r && opens_gate c.id-in-Call-2.result.call) w.is
          ∙ ap (λ (i : RequestId). c.self.inside.committing || is_last w.running && opens_gate i.call) c.id-in-Call-2.ensures)
          t.begun t.given t.checkpoint t.serial t.ticket;
    }))

pub returns-in-PageCall : goal.returns-in-PageCall
returns-in-PageCall c =
    let w = subst (λ step. StepsOn c.self.inside.numbers.ticket c.self.inside.dumper c.self.inside.memory step c.step_on.new.dumper c.step_on.new.memory) c.in-PageCall.is c.in-Ok-step_on.ensures.steps in
    let may = subst (λ v. work_refusal v Dumper ≡ None) (sym c.self.view_is) (may_step c.args.self.now c.requires.rests c.requires.runs c.requires.goes) in
    let grown = c.in-Ok.ensures.grown in
    let t = (ticked _ _ c.tick.ensures) in
    dumper_seen _ _ _ _ c.self.view_is (asks_page c.in-PageCall.request refl (record {
      lane = c.in-PageCall.lane;
      it = record { may = may; running = w.running; was = w.was; image = w.image; making = w.making; next = w.next; steps = (w.steps.0, w.steps.1, refl) };
      new_is = asked_seen (parts_of c.self.inside) c.reserve_mark.new.self c.step_on.new.memory c.put_out.new.outs (slice_set c.self.inside.outs (page_lane c.in-PageCall.lane) (Some c.in-PageCall.request.id))
          c.step_on.new.dumper c.self.inside.dumper.since_freeze (Some (record w.running { image = Some w.next })) c.self.inside.committing c.self.inside.committing
          c.self.inside.journal.items c.self.inside.journal.held c.self.inside.swept c.tick.new.self grown.items grown.held grown.limit w.steps.2
          (c.put_out.ensures ∙ ap (λ k. slice_set c.self.inside.outs k (Some c.id.result)) c.page_lane.ensures.lane ∙ ap (λ id. slice_set c.self.inside.outs (page_lane c.in-PageCall.lane) (Some id)) c.id.ensures)
          w.is w.counted refl t.begun t.given t.checkpoint t.serial t.ticket;
    }))

pub page_lane-requires : goal.page_lane-requires
page_lane-requires c =
    let w = subst (λ step. StepsOn c.self.inside.numbers.ticket c.self.inside.dumper c.self.inside.memory step c.step_on.new.dumper c.step_on.new.memory) c.in-PageCall.is c.in-Ok-step_on.ensures.steps in
    let good = sound_image _ w.running w.image c.sound.ensures.image w.was w.making in
    let within = slice_get_within w.image.writes c.in-PageCall.lane None w.steps.0.free in
    let eight = good.lanes.count in
    omega (arith, within, eight)

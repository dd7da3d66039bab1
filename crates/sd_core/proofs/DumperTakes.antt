-- What a step of the dumper leaves: what is believed of the store, and fewer steps of its job.
use Rattle.std.proofs.Common.{◌≡◌, ◌+◌, ◌<◌, true, false, if◌then◌else◌, ◌∷◌, length, Some, None, slice_get, refl, sym, ◌∙◌, ap, subst, inl, arith}
use Rattle.sd_gate.specs.declared.worker.Worker.TheVariants.{Dumper}
use Rattle.sd_gate.specs.Phases.{state_of}
use Rattle.sd_gate.specs.Requests.{Asked}
use Rattle.sd_command.specs.declared.refusal.Refusal.{Refusal}
use Rattle.sd_command.specs.declared.refusal.Refusal.TheVariants.{OutOfMemory}
use Rattle.sd_command.specs.declared.reply.Reply.TheVariants as reply
use Rattle.sd_journal.specs.declared.entry.Entry.TheVariants.{Freeze}
use Rattle.sd_journal.specs.declared.mark.Mark.TheVariants.{Start, Table, Visit}
use Rattle.sd_journal.specs.Legal.{IsLegal}
use Rattle.sd_journal.specs.TrackedLaws.{TrackedLaws}
use Rattle.sd_merge.specs.Merger as merger
use Rattle.sd_pagetable.specs.Contents.{Contents}
use Rattle.sd_rounds.specs.declared.image_step.ImageStep.{ImageStep}
use Rattle.sd_rounds.specs.declared.image_step.ImageStep.TheVariants.{Call, Copied, Frozen, PageCall, TableCall, Visited}
use Rattle.sd_rounds.specs.Dumper.{Dumping, Running, freezes, image_from, order_of, slot_of}
use Rattle.sd_rounds.specs.Left.{LeftLaws}
use Rattle.sd_rounds.specs.Making.{Making, Steps as StepsImage, begun_image}
use Rattle.sd_rounds.specs.Rises.{RisesLaws}
use Rattle.sd_crash_safety.specs.Calls.{HandsOut, MakesStep}
use Rattle.sd_crash_safety.specs.CoreSteps.{CoreSteps}
use Rattle.sd_crash_safety.specs.DumperSteps.{DumperSteps}
use Rattle.sd_crash_safety.specs.View.{CoreView, history_of, page_lane}
use Rattle.sd_core.specs.declared.taken.Taken.{Taken}
use Rattle.sd_core.specs.Images.{job_of}
use Rattle.sd_core.specs.Next.{AsksNext, AsksPageWrite, AsksTableWrite, BeginsImage, CopiesSector, Freezes, NextByDumper, StepsIt, VisitsPage}
use Rattle.sd_core.specs.Next.{begins_image, asks, freezes as freezes_now, visits, copies, asks_page, asks_table, refused, out_of_memory}
use Rattle.sd_core.specs.Next.{with_entry, with_gate, with_image, with_mark, with_request}
use Rattle.sd_core.specs.Refusals.{work_refusal}
use Rattle.sd_core.specs.Sound.{Parts}
use Rattle.sd_core.specs.SoundView.{IsSoundView, parts_in}
use Rattle.sd_core.specs.Starts.{TakesUp}
use Rattle.sd_core.specs.Working.{LeavesByWork, MovesOn}
use Rattle.sd_core.proofs.ApplyLemmas.{stays_same}
use Rattle.sd_core.proofs.ImageLemmas.{image_asked}
use Rattle.sd_core.proofs.LaneLemmas.{lane_free, none_written, outs_resting, page_apart, page_beside}
use Rattle.sd_core.proofs.MarkLemmas.{before_freeze, may_freeze, sound_image}
use Rattle.sd_core.proofs.StageLemmas.{asked_in}
use Rattle.sd_core.proofs.StepLemmas.{begins_asking, freezes_it, hands_asked, hands_page, works_on}
use Rattle.sd_core.proofs.WorkLemmas.{at_work, free_beside, image_of_work, image_within, out_at_work, own_order, own_slot, rests_before, same_numbers, slot_within}

-- ---- what is known of the core before it

rests_of : (core : CoreView) → work_refusal core Dumper ≡ None → slice_get core.outs 0 ≡ Some None
rests_of core may = grind arith

-- nothing changes where a step is refused
pub refuses : CoreSteps → (core : CoreView) (why : Refusal) → MakesStep core Dumper (reply.Refused why) core
refuses laws core why = record {
  keeps = inl (stays_same laws core core (record {
    store = record { base = refl; phases = refl; outs = refl; opener = refl; standing = refl; catalog = refl; grows = refl; committing = refl; dumper = refl; merger = refl; serial = refl };
    history = refl;
    memory = refl;
  }));
  adds = refl;
}

-- ---- what is believed

module _ (laws : DumperSteps) (old : CoreView) (s : IsSoundView old) where
  abbrev core : Parts
  core = parts_in old s.room

  takes_asks : (request : Asked) (new : CoreView) → AsksNext old request new → HandsOut old Dumper request new
  takes_asks request new x =
      let it = x.it in
      let work = at_work core it.running s.is it.was in
      let rests = rests_of old it.may in
      let out = out_at_work core it.running None s.is it.was rests in
      let slot = (image_asked _ _ _ _ it.image it.next request (same_numbers _) (image_of_work core it.running it.image s.is it.was it.making) it.steps.0).slot in
      let good = sound_image old.dumper.running it.running it.image s.images it.was it.making in
      let own = own_slot old.dumper.since_freeze old.dumper.running it.running it.image s.orders it.was it.making in
      let resting = outs_resting it.running it.image it.next (merger.out_of_merge old.merger) old.outs out.1 it.making (none_written it.image it.steps.0.plan it.steps.0.was good) in
      subst (HandsOut old Dumper request) (sym x.new_is)
      (hands_asked old (with_request false 0 request (with_gate it.running request (with_image it.running it.next old))) it.running it.image it.next old.numbers.ticket (Call request) request (record {
        rest = record { stands = work.stands; base = refl; closed = work.closed; grows = refl; merger = refl };
        history = refl;
        catalog = refl;
        memory = refl;
        phases = refl;
        serial = refl;
        free = rests;
        apart = free_beside core it.running request.id.slot s.is it.was resting (slot ∙ own);
        outs = refl;
        was = it.was;
        making = it.making;
        rising = good.rising;
        own = own_order old.dumper.since_freeze old.dumper.running it.running it.image s.orders it.was it.making;
        steps = it.steps;
        committing = refl;
        is = refl;
      }) it.steps.1 (subst (λ slot. slot < length old.phases) (sym slot) (image_within core old.dumper.since_freeze it.running it.image s.is s.orders it.was it.making))
      (λ asked bodies files. laws.asks _ _ it.running it.image it.next old.numbers.ticket request asked bodies files))

  takes_table : (request : Asked) (new : CoreView) → AsksTableWrite old request new → HandsOut old Dumper request new
  takes_table request new x =
      let it = x.it in
      let work = at_work core it.running s.is it.was in
      let rests = rests_of old it.may in
      let out = out_at_work core it.running None s.is it.was rests in
      let slot = it.steps.0.gives.slot in
      let own = own_slot old.dumper.since_freeze old.dumper.running it.running it.image s.orders it.was it.making in
      subst (HandsOut old Dumper request) (sym x.new_is)
      (hands_asked old (with_mark (Table it.image.order.serial) (with_request false 0 request (with_gate it.running request (with_image it.running it.next old)))) it.running it.image it.next old.numbers.ticket (TableCall request) request (record {
        rest = record { stands = work.stands; base = refl; closed = work.closed; grows = refl; merger = refl };
        history = refl;
        catalog = refl;
        memory = refl;
        phases = refl;
        serial = refl;
        free = rests;
        apart = free_beside core it.running request.id.slot s.is it.was (outs_resting it.running it.image it.next (merger.out_of_merge old.merger) old.outs out.1 it.making it.steps.0.rests) (slot ∙ own);
        outs = refl;
        was = it.was;
        making = it.making;
        rising = (sound_image old.dumper.running it.running it.image s.images it.was it.making).rising;
        own = own_order old.dumper.since_freeze old.dumper.running it.running it.image s.orders it.was it.making;
        steps = it.steps;
        committing = refl;
        is = refl;
      }) it.steps.1 (subst (λ slot. slot < length old.phases) (sym slot) (image_within core old.dumper.since_freeze it.running it.image s.is s.orders it.was it.making))
      (λ asked bodies files. laws.writes_table _ _ it.running it.image it.next old.numbers.ticket request asked bodies files))

  takes_page : (request : Asked) (new : CoreView) → AsksPageWrite old request new → HandsOut old Dumper request new
  takes_page request new x =
      let it = x.it in
      let lane = x.lane in
      let work = at_work core it.running s.is it.was in
      let out = out_at_work core it.running None s.is it.was (rests_of old it.may) in
      let slot = it.steps.0.slot in
      let own = own_slot old.dumper.since_freeze old.dumper.running it.running it.image s.orders it.was it.making in
      subst (HandsOut old Dumper request) (sym x.new_is)
      (hands_page laws old (with_request false (page_lane lane) request (with_image it.running it.next old)) it.running it.image it.next old.numbers.ticket lane request (record {
        rest = record { stands = work.stands; base = refl; closed = work.closed; grows = refl; merger = refl };
        history = refl;
        catalog = refl;
        memory = refl;
        phases = refl;
        serial = refl;
        free = lane_free it.running it.image it.next (merger.out_of_merge old.merger) old.outs out.1 it.making lane it.steps.0.free;
        apart = page_apart core it.running it.image it.next lane request s.is it.was it.making out.1 own it.steps.0;
        outs = refl;
        was = it.was;
        making = it.making;
        rising = (sound_image old.dumper.running it.running it.image s.images it.was it.making).rising;
        own = own_order old.dumper.since_freeze old.dumper.running it.running it.image s.orders it.was it.making;
        steps = it.steps;
        committing = refl;
        is = refl;
      }) it.steps.1 (subst (λ slot. slot < length old.phases) (sym slot) (image_within core old.dumper.since_freeze it.running it.image s.is s.orders it.was it.making))
      (page_beside core it.running it.image it.next lane request s.is it.was it.making out.1 own it.steps.0))

  takes_visit : (new : CoreView) → VisitsPage old new → MakesStep old Dumper reply.Worked new
  takes_visit new x =
      let it = x.it in
      let work = at_work core it.running s.is it.was in
      subst (MakesStep old Dumper reply.Worked) (sym x.new_is)
      (works_on laws old (with_mark (Visit it.image.order.serial x.visit.space x.visit.page) (with_image it.running it.next (record old { memory = x.memory }))) it.running it.image it.next old.numbers.ticket (Visited x.visit) tt (record {
        rest = record { stands = work.stands; base = refl; closed = work.closed; grows = refl; merger = refl };
        history = refl;
        catalog = refl;
        phases = refl;
        serial = refl;
        outs = refl;
        was = it.was;
        making = it.making;
        rising = (sound_image old.dumper.running it.running it.image s.images it.was it.making).rising;
        steps = it.steps;
        plain = it.steps.tests.plain;
        committing = refl;
        is = refl;
      }))

  takes_copy : (new : CoreView) → CopiesSector old new → MakesStep old Dumper reply.Worked new
  takes_copy new x =
      let it = x.it in
      let work = at_work core it.running s.is it.was in
      subst (MakesStep old Dumper reply.Worked) (sym x.new_is)
      (works_on laws old (with_image it.running it.next old) it.running it.image it.next old.numbers.ticket (Copied x.copied) tt (record {
        rest = record { stands = work.stands; base = refl; closed = work.closed; grows = refl; merger = refl };
        history = refl;
        catalog = refl;
        phases = refl;
        serial = refl;
        outs = refl;
        was = it.was;
        making = it.making;
        rising = (sound_image old.dumper.running it.running it.image s.images it.was it.making).rising;
        steps = it.steps;
        plain = refl;
        committing = refl;
        is = refl;
      }))

  takes_freeze : TrackedLaws → (new : CoreView) → Freezes old new → MakesStep old Dumper reply.Worked new
  takes_freeze tracked new x =
      let it = x.it in
      let work = at_work core it.running s.is it.was in
      let b = before_freeze core it.running it.image it.next s.is it.was it.making s.images it.steps.0 in
      let marked = s.is.journal_is.tracked in
      subst (MakesStep old Dumper reply.Worked) (sym x.new_is)
      (freezes_it laws old (with_entry (Freeze it.running.number) (record old { held = 1; dumper = record { running = Some (record it.running { image = Some it.next }); since_freeze = 0 } })) it.running it.image it.next old.numbers.ticket (record {
        rest = record { stands = work.stands; base = refl; closed = work.closed; grows = refl; merger = refl };
        items = refl;
        legal = subst (λ n. IsLegal old.base (Freeze n ∷ history_of old)) (sym work.number) (may_freeze core it.running s.is it.was b.none, tracked.legal old.base old.items marked.marked);
        made = marked.memory;
        catalog = refl;
        memory = refl;
        phases = refl;
        serial = refl;
        outs = refl;
        was = it.was;
        making = it.making;
        steps = it.steps;
        committing = refl;
        is = refl;
      }))

  takes_begin : RisesLaws → (request : Asked) (new : CoreView) → BeginsImage old request new → HandsOut old Dumper request new
  takes_begin rises request new x =
      let serial = old.numbers.serial + 1 in
      let order = order_of x.running serial (state_of x.phase) in
      let work = at_work core x.running s.is x.was in
      let none = rests_before core x.running s.is x.was x.none in
      let slot = (asked_in order (begun_image order).stage x.steps.0.plan x.steps.0.next request x.steps.0.was x.steps.0.gives refl).slot in
      let mid = with_mark (Start serial) (record old {
        catalog = x.places;
        numbers = record old.numbers { serial = serial; given = serial };
        dumper = record old.dumper { running = Some (record x.running { image = Some (begun_image order) }) };
      }) in
      let last = with_mark (Start serial) (with_request true 0 request (with_gate x.running request (with_image x.running x.next (record old { catalog = x.places })))) in
      subst (HandsOut old Dumper request) (sym x.new_is)
      (begins_asking laws old mid last x.running x.phase (begun_image order) x.next old.numbers.ticket request (record {
        rest = record { stands = work.stands; base = refl; closed = work.closed; grows = refl; merger = refl };
        history = refl;
        memory = refl;
        phases = refl;
        outs = refl;
        free = free_beside core x.running (slot_of x.running) s.is x.was none refl;
        was = x.was;
        none = x.none;
        phase_is = x.phase_is;
        serial = refl;
        held = x.held;
        is = refl;
      }) (record {
        rest = record { stands = work.stands; base = refl; closed = work.closed; grows = refl; merger = refl };
        history = refl;
        catalog = refl;
        memory = refl;
        phases = refl;
        serial = refl;
        free = ap (λ outs. slice_get outs 0) none;
        apart = free_beside core x.running request.id.slot s.is x.was none slot;
        outs = refl;
        was = refl;
        making = refl;
        rising = rises.opens _;
        own = refl;
        steps = x.steps;
        committing = refl;
        is = refl;
      }) x.steps.1 (subst (λ s. s < length old.phases) (sym slot) (slot_within core x.running s.is x.was)))

  pub dumper_takes : CoreSteps → TrackedLaws → RisesLaws → (made : Taken) (new : CoreView) → NextByDumper old made new → TakesUp old Dumper made new
  dumper_takes steps tracked rises made new (begins_image request is x) = subst (λ m. TakesUp old Dumper m new) (sym is) (takes_begin rises request new x)
  dumper_takes steps tracked rises made new (asks request is x) = subst (λ m. TakesUp old Dumper m new) (sym is) (takes_asks request new x)
  dumper_takes steps tracked rises made new (freezes_now is x) = subst (λ m. TakesUp old Dumper m new) (sym is) (takes_freeze tracked new x)
  dumper_takes steps tracked rises made new (visits is x) = subst (λ m. TakesUp old Dumper m new) (sym is) (takes_visit new x)
  dumper_takes steps tracked rises made new (copies is x) = subst (λ m. TakesUp old Dumper m new) (sym is) (takes_copy new x)
  dumper_takes steps tracked rises made new (asks_page request is x) = subst (λ m. TakesUp old Dumper m new) (sym is) (takes_page request new x)
  dumper_takes steps tracked rises made new (asks_table request is x) = subst (λ m. TakesUp old Dumper m new) (sym is) (takes_table request new x)
  dumper_takes steps tracked rises made new (refused why named is same) =
      subst (λ m. TakesUp old Dumper m new) (sym is) (subst (MakesStep old Dumper (reply.Refused why)) (sym same) (refuses steps old why))
  dumper_takes steps tracked rises made new (out_of_memory may is same) =
      subst (λ m. TakesUp old Dumper m new) (sym is) (subst (MakesStep old Dumper (reply.Refused OutOfMemory)) (sym same) (refuses steps old OutOfMemory))

-- ---- what is left of the job

module _ (left : LeftLaws) (old : CoreView) where
  goes_on : (running : Running) (image next : Making) (step : ImageStep) (new : CoreView) → old.dumper.running ≡ Some running → running.image ≡ Some image
      → StepsImage old.numbers.ticket image old.memory step next new.memory → new.standing ≡ old.standing
      → new.dumper ≡ record { running = Some (record running { image = Some next }); since_freeze = if freezes step then 0 else old.dumper.since_freeze }
      → MovesOn old Dumper new
  goes_on running image next step new was making steps stands is = record {
    stands = stands;
    job = ap (λ (d : Dumping). job_of d.running) is ∙ ap job_of (sym was);
    lowers = left.works image.order.serial image.order.state old.numbers.ticket old.dumper old.memory step new.dumper new.memory (record {
      running = running;
      was = was;
      next = record running { image = Some next };
      works = record {
        image = next;
        steps = subst (λ i. StepsImage old.numbers.ticket (image_from running image.order.serial image.order.state i) old.memory step next new.memory) (sym making) steps;
        is = refl;
      };
      is = is;
    });
  }

  begins : (request : Asked) (new : CoreView) → BeginsImage old request new → MovesOn old Dumper new
  begins request new x = subst (MovesOn old Dumper) (sym x.new_is) (record {
    stands = refl;
    job = ap job_of (sym x.was);
    lowers = left.works (old.numbers.serial + 1) (state_of x.phase) old.numbers.ticket old.dumper old.memory (Call request) (record old.dumper { running = Some (record x.running { image = Some x.next }) }) old.memory (record {
      running = x.running;
      was = x.was;
      next = record x.running { image = Some x.next };
      works = record {
        image = x.next;
        steps = subst (λ i. StepsImage old.numbers.ticket (image_from x.running (old.numbers.serial + 1) (state_of x.phase) i) old.memory (Call request) x.next old.memory) (sym x.none) x.steps;
        is = refl;
      };
      is = refl;
    });
  })

  stepped : (step : ImageStep) (after : Contents) (it : StepsIt old step after) (new : CoreView) → new.memory ≡ after → new.standing ≡ old.standing
      → new.dumper ≡ record { running = Some (record it.running { image = Some it.next }); since_freeze = if freezes step then 0 else old.dumper.since_freeze }
      → MovesOn old Dumper new
  stepped step after it new memory = goes_on it.running it.image it.next step new it.was it.making (subst (StepsImage old.numbers.ticket it.image old.memory step it.next) (sym memory) it.steps)

  pub dumper_leaves : (made : Taken) (new : CoreView) → work_refusal old Dumper ≡ None → NextByDumper old made new → LeavesByWork old Dumper made new
  dumper_leaves made new may (begins_image request is x) = subst (λ m. LeavesByWork old Dumper m new) (sym is) (begins request new x)
  dumper_leaves made new may (asks request is x) = subst (λ m. LeavesByWork old Dumper m new) (sym is) (subst (MovesOn old Dumper) (sym x.new_is) (stepped (Call request) old.memory x.it _ refl refl refl))
  dumper_leaves made new may (freezes_now is x) = subst (λ m. LeavesByWork old Dumper m new) (sym is) (subst (MovesOn old Dumper) (sym x.new_is) (stepped Frozen old.memory x.it _ refl refl refl))
  dumper_leaves made new may (visits is x) = subst (λ m. LeavesByWork old Dumper m new) (sym is) (subst (MovesOn old Dumper) (sym x.new_is) (stepped (Visited x.visit) x.memory x.it _ refl refl refl))
  dumper_leaves made new may (copies is x) = subst (λ m. LeavesByWork old Dumper m new) (sym is) (subst (MovesOn old Dumper) (sym x.new_is) (stepped (Copied x.copied) old.memory x.it _ refl refl refl))
  dumper_leaves made new may (asks_page request is x) = subst (λ m. LeavesByWork old Dumper m new) (sym is) (subst (MovesOn old Dumper) (sym x.new_is) (stepped (PageCall x.lane request) old.memory x.it _ refl refl refl))
  dumper_leaves made new may (asks_table request is x) = subst (λ m. LeavesByWork old Dumper m new) (sym is) (subst (MovesOn old Dumper) (sym x.new_is) (stepped (TableCall request) old.memory x.it _ refl refl refl))
  dumper_leaves made new may (refused why named is same) = absurd (let never : Some why ≡ None = sym named ∙ may in cc)
  dumper_leaves made new may (out_of_memory free is same) = subst (λ m. LeavesByWork old Dumper m new) (sym is) same

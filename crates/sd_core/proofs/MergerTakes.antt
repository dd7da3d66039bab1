-- What a step of the merger leaves: what is believed of the store, and fewer steps of its job. It finds its source.
use Rattle.std.proofs.Common.{◌≡◌, ◌≢◌, ◌⊎◌, ℕ, ◌+◌, ◌<◌, true, List, length, Option, Some, None, slice_get, slice_set, refl, sym, ◌∙◌, ap, subst, inl, inr, arith}
use Rattle.sd_gate.specs.declared.worker.Worker.TheVariants.{Merger}
use Rattle.sd_gate.specs.declared.slot_state.SlotState.TheVariants.{Raw}
use Rattle.sd_gate.specs.Phases.{state_of}
use Rattle.sd_gate.specs.Requests.{Asked}
use Rattle.sd_command.specs.declared.refusal.Refusal.{Refusal}
use Rattle.sd_command.specs.declared.refusal.Refusal.TheVariants.{Damaged, OutOfMemory}
use Rattle.sd_command.specs.declared.reply.Reply.TheVariants as reply
use Rattle.sd_merge.specs.declared.merge_step.MergeStep.{MergeStep}
use Rattle.sd_merge.specs.declared.merge_step.MergeStep.TheVariants.{Call, PageCall, ReadCall, TableCall}
use Rattle.sd_merge.specs.Copying.{begun_copy}
use Rattle.sd_merge.specs.Left.{LeftLaws, left_of}
use Rattle.sd_merge.specs.Merger as merger
use Rattle.sd_merge.specs.Merger.{Doing, WorksAt, copying, due, opened, retiring}
use Rattle.sd_crash_safety.specs.Believes.{Believes}
use Rattle.sd_crash_safety.specs.Calls.{HandsOut, IsFree, MakesStep}
use Rattle.sd_crash_safety.specs.CoreSteps.{CoreSteps}
use Rattle.sd_crash_safety.specs.MergerSteps.{MergerSteps}
use Rattle.sd_crash_safety.specs.View.{CoreView}
use Rattle.sd_core.specs.declared.taken.Taken.{Taken}
use Rattle.sd_core.specs.declared.taken.Taken.TheVariants as taken
use Rattle.sd_core.specs.Images.{job_of}
use Rattle.sd_core.specs.Merging.{MayRead, StepsAt}
use Rattle.sd_core.specs.Next.{AsksMerge, BeginsMerged, LosesSource, NextByMerger, ReadsAstray, StepsMerge, TakesZeros}
use Rattle.sd_core.specs.Next.{begins_image, asks, reads, writes, writes_table, takes_zeros, lost, astray, refused, out_of_memory}
use Rattle.sd_core.specs.Next.{with_request}
use Rattle.sd_core.specs.Refusals.{work_refusal}
use Rattle.sd_core.specs.Sound.{Parts}
use Rattle.sd_core.specs.SoundView.{IsSoundView, parts_in}
use Rattle.sd_core.specs.Starts.{TakesUp}
use Rattle.sd_core.specs.Working.{FindsSource, HasEnded, LeavesByWork, MovesOn}
use Rattle.sd_core.proofs.ApplyLemmas.{same_phases, stays_same}
use Rattle.sd_core.proofs.BesideLemmas.{due_rests, free_asked, merger_works}
use Rattle.sd_core.proofs.MergerCalls.{StepsMerge as IsStep, call_handed, goes_by_zeros, may_read_by, never_lost, read_handed}
use Rattle.sd_core.proofs.MergerSteps.{asks_own, begun_sound}
use Rattle.sd_core.proofs.OwnLemmas.{makes_in, spared_of}

-- ---- what is known of the core before it

rests_of : (core : CoreView) → work_refusal core Merger ≡ None → slice_get core.outs 1 ≡ Some None
rests_of core may = grind arith

-- nothing changes where a step is refused
refuses : CoreSteps → (core : CoreView) (why : Refusal) → MakesStep core Merger (reply.Refused why) core
refuses laws core why = record {
  keeps = inl (stays_same laws core core (record {
    store = record { base = refl; phases = refl; outs = refl; opener = refl; standing = refl; catalog = refl; grows = refl; committing = refl; dumper = refl; merger = refl; serial = refl };
    history = refl;
    memory = refl;
  }));
  adds = refl;
}

-- ---- what is believed

module _ (old : CoreView) (s : IsSoundView old) where
  abbrev core : Parts
  core = parts_in old s.room

  stepped : MergerSteps old.catalog → {step : MergeStep} (it : StepsMerge old step) → IsStep core old step (Some (record it.merge { doing = it.next }))
  stepped laws it = record {
    laws = laws;
    sound = s.is;
    seen_is = refl;
    rests = rests_of old it.may;
    running = s.merges;
    copied = s.copies;
    makes = s.orders;
    on = record { merge = it.merge; was = it.was; doing = it.next; steps = it.steps; is = refl };
  }

  asks_call : MergerSteps old.catalog → (step : MergeStep) (request : Asked) (new : CoreView)
      → ((step ≡ Call request) ⊎ ((step ≡ PageCall request) ⊎ (step ≡ TableCall request)))
      → AsksMerge old step request new → HandsOut old Merger request new
  asks_call laws step request new is x = subst (HandsOut old Merger request) (sym x.new_is)
      (call_handed (stepped laws x.it) (slice_set old.outs 1 (Some request.id)) _ request (record { begun = refl; given = refl; checkpoint = refl; serial = refl }) refl is)

  asks_read : MergerSteps old.catalog → (request : Asked) (new : CoreView) → AsksMerge old (ReadCall request) request new → MayRead old.dumper.running (length old.phases) request.id.slot → HandsOut old Merger request new
  asks_read laws request new x may = subst (HandsOut old Merger request) (sym x.new_is)
      (read_handed (stepped laws x.it) (slice_set old.outs 1 (Some request.id)) _ (record { begun = refl; given = refl; checkpoint = refl; serial = refl }) refl may)

  -- a page of zeros
  zeros : MergerSteps old.catalog → (new : CoreView) → TakesZeros old new → MakesStep old Merger reply.Worked new
  zeros laws new x = subst (MakesStep old Merger reply.Worked) (sym x.new_is) (record {
    keeps = inl (record {
      base = refl;
      outs = refl;
      phases = same_phases old.outs old.phases;
      goes_on = λ asked bodies files b. goes_by_zeros (stepped laws x.it) asked bodies files b;
    });
    adds = inl refl;
  })

  -- the source is there to be read, where the store is as it is believed to be
  not_lost : MergerSteps old.catalog → (new : CoreView) → LosesSource old new → (asked : List (Option Asked)) (bodies files : List (List ℕ)) → Believes old asked bodies files → ⊥
  not_lost laws new x = never_lost old.catalog laws core old s.is refl refl refl x.lost

  not_astray : MergerSteps old.catalog → (new : CoreView) → ReadsAstray old new → (asked : List (Option Asked)) (bodies files : List (List ℕ)) → Believes old asked bodies files → ⊥
  not_astray laws new x asked bodies files b = x.astray (may_read_by (stepped laws x.it) asked bodies files b)

  loses : MergerSteps old.catalog → (new : CoreView) → LosesSource old new → MakesStep old Merger (reply.Refused Damaged) new
  loses laws new x = subst (MakesStep old Merger (reply.Refused Damaged)) (sym x.new_is) (record {
    keeps = inl (record {
      base = refl;
      outs = refl;
      phases = same_phases old.outs old.phases;
      goes_on = λ asked bodies files b. absurd (not_lost laws new x asked bodies files b);
    });
    adds = refl;
  })

  goes_astray : MergerSteps old.catalog → (new : CoreView) → ReadsAstray old new → MakesStep old Merger (reply.Refused Damaged) new
  goes_astray laws new x = subst (MakesStep old Merger (reply.Refused Damaged)) (sym x.new_is) (record {
    keeps = inl (record {
      base = refl;
      outs = refl;
      phases = same_phases old.outs old.phases;
      goes_on = λ asked bodies files b. absurd (not_astray laws new x asked bodies files b);
    });
    adds = refl;
  })

  begins : (request : Asked) (new : CoreView) (x : BeginsMerged old request new) → MergerSteps x.places → HandsOut old Merger request new
  begins request new x laws =
      let serial = old.numbers.serial + 1 in
      let m = merger_works core x.merge s.is x.was in
      let order = merger.order_of x.merge serial (state_of x.phase) in
      let begun = record x.merge { doing = copying (begun_copy order) } in
      let own = asks_own (begun_copy order) x.next request (begun_sound order) x.steps.0 in
      let rests = due_rests core x.merge s.is x.was x.none in
      let spared = spared_of old.dumper.running x.merge.slot m.spared in
      let free = free_asked core x.merge.slot s.is m.stands rests spared in
      let makes = makes_in old.dumper.since_freeze old.dumper.running s.orders in
      let mid = record old { catalog = x.places; merger = Some begun; numbers = record old.numbers { serial = serial; given = serial } } in
      let last = with_request true 1 request (record old { catalog = x.places; merger = Some (record x.merge { doing = copying x.next }) }) in
      subst (HandsOut old Merger request) (sym x.new_is) (record {
        lane = 1;
        free = rests;
        base = refl;
        history = refl;
        phases = refl;
        outs = refl;
        whose = x.steps.1.worker;
        slot = subst (λ s. s < length old.phases) (sym own.slot) m.within;
        apart = λ lane other at same. absurd (subst (IsFree old.outs) (sym own.slot) free lane other at same);
        pages = λ few. absurd (omega (arith, few));
        beside = λ lane other at same. absurd (subst (IsFree old.outs) (sym own.slot) free lane other at same);
        goes_on = λ asked bodies files believed.
            laws.asks mid last begun (begun_copy order) x.next old.numbers.ticket request asked bodies files refl (record {
              merges = record {
                rest = record { stands = m.stands; base = refl; history = refl; memory = refl; closed = m.closed; grows = refl; committing = refl; dumper = refl; makes = makes };
                phases = refl;
                serial = refl;
                catalog = refl;
                was = refl;
                doing = refl;
                sound = begun_sound order;
                steps = x.steps;
                is = refl;
              };
              free = rests;
              apart = subst (IsFree old.outs) (sym own.slot) free;
              outs = refl;
            }) (laws.begins_image old mid x.merge x.phase asked bodies files (record {
              rest = record { stands = m.stands; base = refl; history = refl; memory = refl; closed = m.closed; grows = refl; committing = refl; dumper = refl; makes = makes };
              phases = refl;
              outs = refl;
              phase_is = x.phase_is;
              free = free;
              serial = refl;
              held = x.held;
              was = x.was;
              due = x.none;
              is = refl;
            }) believed);
      })

  -- the laws of the catalog after a step are those of the one before, where it stays
  before : (new next : CoreView) → new ≡ next → MergerSteps new.catalog → MergerSteps next.catalog
  before new next is = subst (λ (v : CoreView). MergerSteps v.catalog) is

  pub merger_takes : CoreSteps → (made : Taken) (new : CoreView) → MergerSteps new.catalog → NextByMerger old made new → TakesUp old Merger made new
  merger_takes steps made new laws (begins_image request is x) = subst (λ m. TakesUp old Merger m new) (sym is) (begins request new x (before new _ x.new_is laws))
  merger_takes steps made new laws (asks request is x) = subst (λ m. TakesUp old Merger m new) (sym is) (asks_call (before new _ x.new_is laws) (Call request) request new (inl refl) x)
  merger_takes steps made new laws (reads request is x may) = subst (λ m. TakesUp old Merger m new) (sym is) (asks_read (before new _ x.new_is laws) request new x may)
  merger_takes steps made new laws (writes request is x) = subst (λ m. TakesUp old Merger m new) (sym is) (asks_call (before new _ x.new_is laws) (PageCall request) request new (inr (inl refl)) x)
  merger_takes steps made new laws (writes_table request is x) = subst (λ m. TakesUp old Merger m new) (sym is) (asks_call (before new _ x.new_is laws) (TableCall request) request new (inr (inr refl)) x)
  merger_takes steps made new laws (takes_zeros is x) = subst (λ m. TakesUp old Merger m new) (sym is) (zeros (before new _ x.new_is laws) new x)
  merger_takes steps made new laws (lost is x) = subst (λ m. TakesUp old Merger m new) (sym is) (loses (before new _ x.new_is laws) new x)
  merger_takes steps made new laws (astray is x) = subst (λ m. TakesUp old Merger m new) (sym is) (goes_astray (before new _ x.new_is laws) new x)
  merger_takes steps made new laws (refused why named is same) =
      subst (λ m. TakesUp old Merger m new) (sym is) (subst (MakesStep old Merger (reply.Refused why)) (sym same) (refuses steps old why))
  merger_takes steps made new laws (out_of_memory may is same) =
      subst (λ m. TakesUp old Merger m new) (sym is) (subst (MakesStep old Merger (reply.Refused OutOfMemory)) (sym same) (refuses steps old OutOfMemory))

  -- another answer than that the store is damaged
  other : (made answer : Taken) → made ≡ answer → answer ≢ taken.Step (reply.Refused Damaged) → FindsSource old made
  other made answer is differs asked bodies files b damaged = differs (sym is ∙ damaged)

  pub merger_finds : (made : Taken) (new : CoreView) → MergerSteps new.catalog → work_refusal old Merger ≡ None → NextByMerger old made new → FindsSource old made
  merger_finds made new laws may (begins_image request is x) = other made (taken.Call request) is (λ no. cc)
  merger_finds made new laws may (asks request is x) = other made (taken.Call request) is (λ no. cc)
  merger_finds made new laws may (reads request is x at) = other made (taken.Call request) is (λ no. cc)
  merger_finds made new laws may (writes request is x) = other made (taken.Call request) is (λ no. cc)
  merger_finds made new laws may (writes_table request is x) = other made (taken.Call request) is (λ no. cc)
  merger_finds made new laws may (takes_zeros is x) = other made (taken.Step reply.Worked) is (λ no. cc)
  merger_finds made new laws may (lost is x) = λ asked bodies files b damaged. not_lost (before new _ x.new_is laws) new x asked bodies files b
  merger_finds made new laws may (astray is x) = λ asked bodies files b damaged. not_astray (before new _ x.new_is laws) new x asked bodies files b
  merger_finds made new laws may (refused why named is same) = absurd (let never : Some why ≡ None = sym named ∙ may in cc)
  merger_finds made new laws may (out_of_memory free is same) = other made (taken.Step (reply.Refused OutOfMemory)) is (λ no. cc)

-- ---- what is left of the job

module _ (left : LeftLaws) (old : CoreView) where
  -- a step on the merged image, or on one that is being closed
  works_at : (merge : merger.Running) (was next : Doing) (step : MergeStep) → StepsAt old.numbers.ticket old.catalog merge was step next
      → WorksAt 0 Raw old.numbers.ticket old.catalog merge was step next
  works_at merge due next step steps = absurd steps
  works_at merge (copying copy) next step steps = steps
  works_at merge (opened serial) next step steps = absurd steps
  works_at merge (retiring r) next step steps = steps

  moves : {step : MergeStep} (it : StepsMerge old step) (new : CoreView) → new.standing ≡ old.standing → new.dumper ≡ old.dumper
      → new.merger ≡ Some (record it.merge { doing = it.next }) → MovesOn old Merger new
  moves {step} it new stands same is = record {
    stands = stands;
    job = ap (λ d. job_of d.running) same;
    lowers = left.works 0 Raw old.numbers.ticket old.catalog old.merger step new.merger (record {
      running = it.merge;
      was = it.was;
      next = record it.merge { doing = it.next };
      works = record { works = works_at it.merge it.merge.doing it.next step it.steps; is = refl };
      is = is;
    });
  }

  begins_on : (request : Asked) (new : CoreView) → BeginsMerged old request new → MovesOn old Merger new
  begins_on request new x = subst (MovesOn old Merger) (sym x.new_is) (record {
    stands = refl;
    job = refl;
    lowers = left.works (old.numbers.serial + 1) (state_of x.phase) old.numbers.ticket x.places old.merger (Call request) (Some (record x.merge { doing = copying x.next })) (record {
      running = x.merge;
      was = x.was;
      next = record x.merge { doing = copying x.next };
      works = record {
        works = subst (λ d. WorksAt (old.numbers.serial + 1) (state_of x.phase) old.numbers.ticket x.places x.merge d (Call request) (copying x.next)) (sym x.none) (record { copy = x.next; steps = x.steps; is = refl });
        is = refl;
      };
      is = refl;
    });
  })

  asks_on : (step : MergeStep) (request : Asked) (new : CoreView) → AsksMerge old step request new → MovesOn old Merger new
  asks_on step request new x = subst (MovesOn old Merger) (sym x.new_is) (moves x.it _ refl refl refl)

  -- the merge has ended
  ends : (new : CoreView) → ReadsAstray old new → HasEnded old.standing old Merger new
  ends new x = subst (HasEnded old.standing old Merger) (sym x.new_is) (record {
    stands_so = refl;
    lowers = (let less : left_of (Some (record x.it.merge { doing = x.it.next })) < left_of old.merger = (moves x.it (record old { merger = Some (record x.it.merge { doing = x.it.next }) }) refl refl refl).lowers in omega (arith, less));
    idle = refl;
  })

  pub merger_leaves : (made : Taken) (new : CoreView) → work_refusal old Merger ≡ None → NextByMerger old made new → LeavesByWork old Merger made new
  merger_leaves made new may (begins_image request is x) = subst (λ m. LeavesByWork old Merger m new) (sym is) (begins_on request new x)
  merger_leaves made new may (asks request is x) = subst (λ m. LeavesByWork old Merger m new) (sym is) (asks_on (Call request) request new x)
  merger_leaves made new may (reads request is x at) = subst (λ m. LeavesByWork old Merger m new) (sym is) (asks_on (ReadCall request) request new x)
  merger_leaves made new may (writes request is x) = subst (λ m. LeavesByWork old Merger m new) (sym is) (asks_on (PageCall request) request new x)
  merger_leaves made new may (writes_table request is x) = subst (λ m. LeavesByWork old Merger m new) (sym is) (asks_on (TableCall request) request new x)
  merger_leaves made new may (takes_zeros is x) = subst (λ m. LeavesByWork old Merger m new) (sym is) (subst (MovesOn old Merger) (sym x.new_is) (moves x.it _ refl refl refl))
  merger_leaves made new may (lost is x) = subst (λ m. LeavesByWork old Merger m new) (sym is) (inl x.new_is)
  merger_leaves made new may (astray is x) = subst (λ m. LeavesByWork old Merger m new) (sym is) (inr (ends new x))
  merger_leaves made new may (refused why named is same) = absurd (let never : Some why ≡ None = sym named ∙ may in cc)
  merger_leaves made new may (out_of_memory free is same) = subst (λ m. LeavesByWork old Merger m new) (sym is) same

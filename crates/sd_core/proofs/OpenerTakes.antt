-- What a step of the opener leaves: what is believed of the store, and fewer steps of its job.
use Rattle.std.proofs.Common.{◌≡◌, ℕ, ◌-◌, ◌<◌, zero, suc, length, map, take, Option, Some, None, IfSome, false, is_none, ◌∷◌, refl, sym, ◌∙◌, ap, subst, inl, arith}
use Rattle.std.proofs.lemmas.Option.{same_Some}
use Rattle.std.proofs.Math.Seq.{take-length}
use Rattle.sd_gate.specs.declared.worker.Worker.TheVariants.{Opener}
use Rattle.sd_gate.specs.Laws.{found_phase}
use Rattle.sd_gate.specs.Requests.{Asked}
use Rattle.sd_command.specs.declared.refusal.Refusal.{Refusal}
use Rattle.sd_command.specs.declared.refusal.Refusal.TheVariants.{Damaged, OutOfMemory}
use Rattle.sd_command.specs.declared.reply.Reply.{Reply}
use Rattle.sd_command.specs.declared.reply.Reply.TheVariants as reply
use Rattle.sd_journal.specs.declared.entry.Entry.TheVariants.{Reopened}
use Rattle.sd_journal.specs.History.{last, pending}
use Rattle.sd_journal.specs.Kept.{JournalView}
use Rattle.sd_journal.specs.Marked.{Told}
use Rattle.sd_journal.specs.TrackedLaws.{TrackedLaws}
use Rattle.sd_opener.specs.declared.opener_step.OpenerStep.TheVariants.{AllRead}
use Rattle.sd_opener.specs.declared.stage.Stage.{Stage}
use Rattle.sd_opener.specs.Left.{looking_left, slots_left}
use Rattle.sd_opener.specs.Looking.{Looking}
use Rattle.sd_pagetable.specs.Law.{PlainLaw}
use Rattle.sd_crash_safety.specs.declared.standing.Standing.TheVariants.{Open}
use Rattle.sd_crash_safety.specs.Calls.{HandsOut, MakesStep}
use Rattle.sd_crash_safety.specs.CoreSteps.{CoreSteps}
use Rattle.sd_crash_safety.specs.Laws.{ReopenedIsBelieved}
use Rattle.sd_crash_safety.specs.OpenerSteps.{OpenerSteps}
use Rattle.sd_crash_safety.specs.View.{CoreView, history_of}
use Rattle.sd_core.specs.declared.taken.Taken.{Taken}
use Rattle.sd_core.specs.Grown.{has_visited_all}
use Rattle.sd_core.specs.Images.{job_of}
use Rattle.sd_core.specs.Next.{AsksOpener, DecodesSlot, NextByOpener, NextOnceRead, OpensStore, StepsOpener}
use Rattle.sd_core.specs.Next.{asks, damaged, decodes, opens, out_of_memory, reads_all, refused, strange, with_held, with_request}
use Rattle.sd_core.specs.Refusals.{work_refusal}
use Rattle.sd_core.specs.Sound.{IsOpening, Parts, out_of_opener}
use Rattle.sd_core.specs.SoundView.{IsSoundView, parts_in}
use Rattle.sd_core.specs.Starts.{TakesUp}
use Rattle.sd_core.specs.Working.{HasEnded, LeavesByStep, LeavesByWork, MovesOn, opener_left}
use Rattle.sd_core.proofs.ApplyLemmas.{stays_same}
use Rattle.sd_core.proofs.CoreLemmas.{nobody_is, set_alone}
use Rattle.sd_core.proofs.FoundNumbers.{above_found}
use Rattle.sd_core.proofs.JournalLemmas.{expected_may, reopened_journal}
use Rattle.sd_core.proofs.MergeLemmas.{none_merges}
use Rattle.sd_core.proofs.OpeningLemmas.{decoded, ends_refused, hands_out, starts_anew}
use Rattle.sd_core.proofs.WorkLemmas.{none_closed}

-- nothing changes where a step is refused
refuses : CoreSteps → (core : CoreView) (why : Refusal) → MakesStep core Opener (reply.Refused why) core
refuses laws core why = record {
  keeps = inl (stays_same laws core core (record {
    store = record { base = refl; phases = refl; outs = refl; opener = refl; standing = refl; catalog = refl; grows = refl; committing = refl; dumper = refl; merger = refl; serial = refl };
    history = refl;
    memory = refl;
  }));
  adds = refl;
}

-- ---- what is believed

module _ (laws : OpenerSteps) (old : CoreView) (s : IsSoundView old) where
  abbrev core : Parts
  core = parts_in old s.room

  opening : (looking : Looking) → old.opener ≡ Some looking → IsOpening old.standing old.phases looking
  opening looking is = subst (λ x. IfSome x (IsOpening old.standing old.phases)) is s.is.opening

  looks : (request : Asked) (new : CoreView) → AsksOpener old request new → HandsOut old Opener request new
  looks request new x =
      let w = x.it.works in
      let o = opening w.opener w.was in
      let none = nobody_is core w.opener s.is w.was (ap out_of_opener w.was ∙ w.rests) in
      subst (HandsOut old Opener request) (sym x.new_is)
      (hands_out laws old (with_request false 2 request (record old { opener = x.it.after })) w.opener w.next old.numbers.ticket request (record {
        rest = record { closed = o.closed; base = refl; items = refl; memory = refl; standing = refl; catalog = refl; dumper = refl; numbers = refl; grows = refl; committing = refl };
        none = none;
        outs = set_alone old.outs request.id none;
        phases = refl;
        was = w.was;
        is = w.is;
        asked = w.moves;
        sees = w.sees;
      }) o.slots)

  decodes_slot : (new : CoreView) → DecodesSlot old new → MakesStep old Opener reply.Worked new
  decodes_slot new x =
      let w = x.it.works in
      let o = opening w.opener w.was in
      subst (MakesStep old Opener reply.Worked) (sym x.new_is)
      (decoded laws old (record old { opener = x.it.after }) w.opener w.next (record {
        rest = record { closed = o.closed; base = refl; items = refl; memory = refl; standing = refl; catalog = refl; dumper = refl; numbers = refl; grows = refl; committing = refl };
        outs = refl;
        none = nobody_is core w.opener s.is w.was (ap out_of_opener w.was ∙ w.rests);
        phases = refl;
        was = w.was;
        is = w.is;
        decoded = w.moves;
        sees = w.sees;
      }))

  -- the opener ends
  ends : (looking : Looking) → old.opener ≡ Some looking → MakesStep old Opener (reply.Refused Damaged) (with_held (record old { opener = None }))
  ends looking is = ends_refused laws old (with_held (record old { opener = None })) Damaged (record {
    rest = record { closed = (opening looking is).closed; base = refl; items = refl; memory = refl; standing = refl; catalog = refl; dumper = refl; numbers = refl; grows = refl; committing = refl };
    outs = refl;
    phases = refl;
    opener = refl;
  })

  -- ---- every slot was read

  opens_store : TrackedLaws → PlainLaw → ReopenedIsBelieved → (found : Option ℕ) (new : CoreView) → IsSoundView new → StepsOpener old AllRead → OpensStore old found new
      → MakesStep old Opener (reply.Reopened found) new
  opens_store tracked plain reopened found new n it x =
      let w = it.works in
      let o = opening x.looking x.is in
      let same : w.opener ≡ x.looking = same_Some w.opener x.looking (sym w.was ∙ x.is) in
      let none = none_closed core s.is o.closed in
      let rests : out_of_opener old.opener ≡ None = ap out_of_opener w.was ∙ w.rests in
      let all : length x.looking.told ≡ x.looking.slots = subst (λ (l : Looking). length l.told ≡ l.slots) same w.moves.1 in
      let expected = expected_may (pending (history_of old)) (last old.base (history_of old)) found (has_visited_all old.items) x.reads.expected in
      let journal : JournalView = record { first = old.base.folded; items = Told (Reopened found) ∷ old.items; held = 0; limit = old.limit; room = 0; mark_room = 0 } in
      let legal = reopened_journal tracked plain old.base core.journal journal old.memory (pending (history_of old)) (last old.base (history_of old)) found (has_visited_all old.items)
      refl refl refl expected s.memory s.is.visited_is s.is.journal_is in
      let opened : CoreView = record old { items = Told (Reopened found) ∷ old.items; held = 0; standing = Open; phases = x.read.phases.items; catalog = x.read.catalog; opener = None; numbers = x.numbers; grows = false; committing = false } in
      let sound : IsSoundView opened = subst IsSoundView x.new_is n in
      subst (MakesStep old Opener (reply.Reopened found)) (sym x.new_is)
      (starts_anew reopened laws old opened x.looking found (record {
        base = refl;
        items = refl;
        outs = refl;
        none = nobody_is core x.looking s.is x.is rests;
        legal = (legal.1, tracked.legal old.base old.items s.is.journal_is.tracked.marked);
        was = x.is;
        all = all;
        slots = o.slots;
        closed = refl;
        count = ap length x.reads.told ∙ all ∙ o.slots;
      }) (λ files sees count. x.reads.told ∙ sees.told ∙ ap (λ k. map found_phase (take k files)) count ∙ ap (map found_phase) (take-length files)) x.reads.number (λ files sees count shown shows. record {
        catalog = (x.reads.read files sees count shown shows).catalog;
        order = sound.catalog.order;
        serials = λ serial i at. above_found sound.catalog x.finds.serial serial i at;
        grows = refl;
        idle = none;
        unmerged = none_merges core s.is o.closed;
        outs = nobody_is core x.looking s.is x.is rests;
      }))

  once_read : TrackedLaws → PlainLaw → ReopenedIsBelieved → (answer : Reply) (new : CoreView) → IsSoundView new → StepsOpener old AllRead → NextOnceRead old answer new
      → MakesStep old Opener answer new
  once_read tracked plain reopened answer new n it (opens found is x) = subst (λ a. MakesStep old Opener a new) (sym is) (opens_store tracked plain reopened found new n it x)
  once_read tracked plain reopened answer new n it (strange is x) =
      subst (λ a. MakesStep old Opener a new) (sym is) (subst (MakesStep old Opener (reply.Refused Damaged)) (sym x.new_is) (ends x.looking x.is))

  pub opener_takes : CoreSteps → TrackedLaws → PlainLaw → ReopenedIsBelieved → (made : Taken) (new : CoreView) → IsSoundView new → NextByOpener old made new → TakesUp old Opener made new
  opener_takes steps tracked plain reopened made new n (asks request is x) = subst (λ m. TakesUp old Opener m new) (sym is) (looks request new x)
  opener_takes steps tracked plain reopened made new n (decodes is x) = subst (λ m. TakesUp old Opener m new) (sym is) (decodes_slot new x)
  opener_takes steps tracked plain reopened made new n (damaged slot reason is x) =
      subst (λ m. TakesUp old Opener m new) (sym is) (subst (MakesStep old Opener (reply.Refused Damaged)) (sym x.new_is) (ends x.it.works.opener x.it.works.was))
  opener_takes steps tracked plain reopened made new n (reads_all answer is it once) = subst (λ m. TakesUp old Opener m new) (sym is) (once_read tracked plain reopened answer new n it once)
  opener_takes steps tracked plain reopened made new n (refused why named is same) =
      subst (λ m. TakesUp old Opener m new) (sym is) (subst (MakesStep old Opener (reply.Refused why)) (sym same) (refuses steps old why))
  opener_takes steps tracked plain reopened made new n (out_of_memory may is same) =
      subst (λ m. TakesUp old Opener m new) (sym is) (subst (MakesStep old Opener (reply.Refused OutOfMemory)) (sym same) (refuses steps old OutOfMemory))

-- ---- what is left of the job

-- an opener has something left
some_left : (looking : Looking) → 0 < looking_left looking
some_left looking = by (looking.slots - length looking.told) looking.stage
  where
    by : (slots : ℕ) (stage : Stage) → 0 < slots_left slots stage
    by zero stage = omega arith
    by (suc others) stage = omega arith

module _ (old : CoreView) where
  moves : (looking next : Looking) (new : CoreView) → old.opener ≡ Some looking → new.opener ≡ Some next → looking_left next < looking_left looking → new.standing ≡ old.standing
      → new.dumper ≡ old.dumper → MovesOn old Opener new
  moves looking next new was is less stands same = record {
    stands = stands;
    job = ap (λ d. job_of d.running) same;
    lowers = subst (λ o. opener_left o < opener_left old.opener) (sym is) (subst (λ o. looking_left next < opener_left o) (sym was) less);
  }

  -- the opener has ended
  has_ended : (looking : Looking) (new : CoreView) → old.opener ≡ Some looking → new.opener ≡ None → HasEnded new.standing old Opener new
  has_ended looking new was is = record {
    stands_so = refl;
    lowers = subst (λ o. opener_left o < opener_left old.opener) (sym is) (subst (λ o. 0 < opener_left o) (sym was) (some_left looking));
    idle = ap is_none is;
  }

  once_left : (answer : Reply) (new : CoreView) → NextOnceRead old answer new → LeavesByStep old Opener answer new
  once_left answer new (opens found is x) = subst (λ a. LeavesByStep old Opener a new) (sym is) (subst (HasEnded Open old Opener) (sym x.new_is) (has_ended x.looking _ x.is refl))
  once_left answer new (strange is x) = subst (λ a. LeavesByStep old Opener a new) (sym is) (subst (HasEnded old.standing old Opener) (sym x.new_is) (has_ended x.looking _ x.is refl))

  pub opener_leaves : (made : Taken) (new : CoreView) → work_refusal old Opener ≡ None → NextByOpener old made new → LeavesByWork old Opener made new
  opener_leaves made new may (asks request is x) = let w = x.it.works in
      subst (λ m. LeavesByWork old Opener m new) (sym is) (subst (MovesOn old Opener) (sym x.new_is) (moves w.opener w.next _ w.was w.is w.lowers refl refl))
  opener_leaves made new may (decodes is x) = let w = x.it.works in
      subst (λ m. LeavesByWork old Opener m new) (sym is) (subst (MovesOn old Opener) (sym x.new_is) (moves w.opener w.next _ w.was w.is w.lowers refl refl))
  opener_leaves made new may (damaged slot reason is x) =
      subst (λ m. LeavesByWork old Opener m new) (sym is) (subst (HasEnded old.standing old Opener) (sym x.new_is) (has_ended x.it.works.opener _ x.it.works.was refl))
  opener_leaves made new may (reads_all answer is it once) = subst (λ m. LeavesByWork old Opener m new) (sym is) (once_left answer new once)
  opener_leaves made new may (refused why named is same) = absurd (let never : Some why ≡ None = sym named ∙ may in cc)
  opener_leaves made new may (out_of_memory free is same) = subst (λ m. LeavesByWork old Opener m new) (sym is) same

-- What follows of a step and an outcome of the opener, and of an outcome that comes late, where the core is sound.
use Rattle.std.proofs.Common.{◌≡◌, ◌≢◌, ℕ, length, Option, Some, None, slice_get, slice_set, refl, sym, ◌∙◌, ap, subst, inl}
use Rattle.std.proofs.lemmas.Option.{same_Some}
use Rattle.sd_command.specs.declared.refusal.Refusal.{Refusal}
use Rattle.sd_command.specs.declared.refusal.Refusal.TheVariants.{Damaged, OutOfMemory, StoreDown}
use Rattle.sd_command.specs.declared.reply.Reply.{Reply}
use Rattle.sd_command.specs.declared.reply.Reply.TheVariants as reply
use Rattle.sd_gate.specs.declared.worker.Worker.TheVariants.{Opener}
use Rattle.sd_gate.specs.Calls.{is_done}
use Rattle.sd_gate.specs.Phases.{phases_after}
use Rattle.sd_gate.specs.Requests.{Made}
use Rattle.sd_opener.specs.declared.opener_step.OpenerStep.{OpenerStep}
use Rattle.sd_opener.specs.declared.opener_step.OpenerStep.TheVariants.{AllRead}
use Rattle.sd_opener.specs.Looking.{Looking}
use Rattle.sd_opener.specs.Sees.{Sees}
use Rattle.sd_crash_safety.specs.Calls.{HandedIn, IsOut}
use Rattle.sd_crash_safety.specs.DumperOutcomes.{DumperOutcomes, closes_for_sure}
use Rattle.sd_crash_safety.specs.Laws.{OpenerFinds}
use Rattle.sd_crash_safety.specs.MergerOutcomes.{MergerOutcomes}
use Rattle.sd_crash_safety.specs.OpenerSteps.{OpenerSteps, nobody, opener_alone}
use Rattle.sd_crash_safety.specs.View.{CoreView}
use Rattle.sd_crash_safety.specs.declared.standing.Standing.TheVariants.{Open}
use Rattle.sd_core.specs.declared.taken.Taken.{Taken}
use Rattle.sd_core.specs.declared.taken.Taken.TheVariants as taken
use Rattle.sd_core.specs.Following.{FollowsOutcome}
use Rattle.sd_core.specs.Next.{ComesLate, FailsToOpen, HandsOpener, LearnsSlot, NextByOpener, NextByOpenersOutcome, StepsOpener, asks, damaged, decodes, fails, learns, opens, out_of_memory, reads_all, refused, strange}
use Rattle.sd_core.specs.Opening.{IsExpected, OpensBelieved, OpensOwn, RefusesAsScan, RefusesRightly}
use Rattle.sd_core.specs.Refusals.{work_refusal}
use Rattle.sd_core.specs.Sound.{out_of_opener}
use Rattle.sd_core.specs.SoundView.{IsSoundView, parts_in}
use Rattle.sd_core.proofs.CoreLemmas.{alone_is, closed_by, nobody_is, set_nobody, taught_opener}
use Rattle.sd_core.proofs.HandedLemmas.{handed_late, is_late}
use Rattle.sd_core.proofs.LaneLemmas.{same_lane}
use Rattle.sd_core.proofs.NextOutcomes.{count_stays}
use Rattle.sd_core.proofs.OpeningLemmas.{handed_failed, handed_on}
use Rattle.sd_core.proofs.StrangeLemmas.{believed_opens}

-- ---- a step

not_damaged : (answer : Reply) → answer ≡ reply.Worked → answer ≡ reply.Refused Damaged → ⊥
not_damaged answer is told = let no : reply.Worked ≡ reply.Refused Damaged = sym is ∙ told in cc

found_not : (answer : Reply) (found : Option ℕ) → answer ≡ reply.Reopened found → answer ≡ reply.Refused Damaged → ⊥
found_not answer found is told = let no : reply.Reopened found ≡ reply.Refused Damaged = sym is ∙ told in cc

same_found : (a b : Option ℕ) → taken.Step (reply.Reopened a) ≡ taken.Step (reply.Reopened b) → a ≡ b
same_found a b e = cc

module _ (old : CoreView) (made : Taken) (new : CoreView) (may : work_refusal old Opener ≡ None) where
  none_refused : {X : Type 0} (why : Refusal) → work_refusal old Opener ≡ Some why → X
  none_refused why is = absurd (let no : Some why ≡ None = sym is ∙ may in cc)

  -- the opener that ran
  ran : (step : OpenerStep) (s : StepsOpener old step) (opener : Looking) → old.opener ≡ Some opener → opener ≡ s.works.opener
  ran step s opener there = same_Some opener s.works.opener (sym there ∙ s.works.was)

  read_all : (s : StepsOpener old AllRead) (looking : Looking) → old.opener ≡ Some looking → length looking.told ≡ looking.slots
  read_all s looking is = subst (λ (l : Looking). length l.told ≡ l.slots) (sym (ran AllRead s looking is)) s.works.moves.1

  pub refuses_rightly : NextByOpener old made new → RefusesRightly old made
  refuses_rightly (asks request is a) = subst (RefusesRightly old) (sym is) tt
  refuses_rightly (decodes is d) = subst (RefusesRightly old) (sym is) (λ told opener there files sees own. absurd (not_damaged reply.Worked refl told))
  refuses_rightly (damaged slot reason is d) = subst (RefusesRightly old) (sym is) (λ told opener there files sees own.
      let own_opener = ran _ d.it opener there in
      d.it.works.sees files (subst (Sees files None) own_opener sees) own.images own.store)
  refuses_rightly (reads_all answer is s (opens found told o)) = subst (RefusesRightly old) (sym is) (λ no opener there files sees own. absurd (found_not answer found told no))
  refuses_rightly (reads_all answer is s (strange told f)) = subst (RefusesRightly old) (sym is) (λ _ opener there files sees own.
      let same : opener ≡ f.looking = same_Some opener f.looking (sym there ∙ f.is) in
      let seen = subst (Sees files None) same sees in
      f.strange files seen (read_all s f.looking f.is ∙ sym seen.count) own)
  refuses_rightly (refused why is told same) = none_refused why is
  refuses_rightly (out_of_memory none is same) = subst (RefusesRightly old) (sym is) (λ told opener there files sees own. absurd (let no : reply.Refused OutOfMemory ≡ reply.Refused Damaged = told in cc))

  pub refuses_as_scan : NextByOpener old made new → RefusesAsScan old made
  refuses_as_scan (asks request is a) = subst (RefusesAsScan old) (sym is) tt
  refuses_as_scan (decodes is d) = subst (RefusesAsScan old) (sym is) (λ told opener there files sees right. absurd (not_damaged reply.Worked refl told))
  refuses_as_scan (damaged slot reason is d) = subst (RefusesAsScan old) (sym is) (λ told opener there files sees right.
      let own_opener = ran _ d.it opener there in
      inl (record { slot = slot; reason = reason; damage = inl (d.it.works.names files (subst (Sees files None) own_opener sees) right) }))
  refuses_as_scan (reads_all answer is s (opens found told o)) = subst (RefusesAsScan old) (sym is) (λ no opener there files sees right. absurd (found_not answer found told no))
  refuses_as_scan (reads_all answer is s (strange told f)) = subst (RefusesAsScan old) (sym is) (λ _ opener there files sees right.
      let same : opener ≡ f.looking = same_Some opener f.looking (sym there ∙ f.is) in
      let seen = subst (Sees files None) same sees in
      f.damage files seen (read_all s f.looking f.is ∙ sym seen.count) right)
  refuses_as_scan (refused why is told same) = none_refused why is
  refuses_as_scan (out_of_memory none is same) = subst (RefusesAsScan old) (sym is) (λ told opener there files sees right. absurd (let no : reply.Refused OutOfMemory ≡ reply.Refused Damaged = told in cc))

  pub opens_own : NextByOpener old made new → OpensOwn old made
  opens_own (asks request is a) found told = absurd (let no : taken.Call request ≡ taken.Step (reply.Reopened found) = sym is ∙ told in cc)
  opens_own (decodes is d) found told = absurd (let no : taken.Step reply.Worked ≡ taken.Step (reply.Reopened found) = sym is ∙ told in cc)
  opens_own (damaged slot reason is d) found told = absurd (let no : taken.Step (reply.Refused Damaged) ≡ taken.Step (reply.Reopened found) = sym is ∙ told in cc)
  opens_own (reads_all answer is s (opens other was o)) found told = subst (IsExpected _ _) (same_found other found (ap taken.Step (sym was) ∙ sym is ∙ told)) o.reads.expected
  opens_own (reads_all answer is s (strange was f)) found told = absurd (let no : taken.Step (reply.Refused Damaged) ≡ taken.Step (reply.Reopened found) = ap taken.Step (sym was) ∙ sym is ∙ told in cc)
  opens_own (refused why is told same) found other = none_refused why is
  opens_own (out_of_memory none is same) found told = absurd (let no : taken.Step (reply.Refused OutOfMemory) ≡ taken.Step (reply.Reopened found) = sym is ∙ told in cc)

  -- a store that is as it is believed to be isn't refused
  believed : IsSoundView old → OpenerFinds → (step : OpenerStep) → StepsOpener old step → RefusesRightly old made → OpensBelieved old made
  believed sound finds step s refuses = believed_opens finds old made s.works.opener (λ commits. sym sound.is.flags_are.visited_by ∙ sound.is.flags_are.sure commits) s.works.was
      (ap (λ outs. slice_get outs 2) (nobody_is (parts_in old sound.room) s.works.opener sound.is s.works.was (ap out_of_opener s.works.was ∙ s.works.rests))) refuses

  pub opens_believed : IsSoundView old → OpenerFinds → NextByOpener old made new → OpensBelieved old made
  opens_believed sound finds step = by step
    where
      by : NextByOpener old made new → OpensBelieved old made
      by (asks request is a) = believed sound finds _ a.it (refuses_rightly step)
      by (decodes is d) = believed sound finds _ d.it (refuses_rightly step)
      by (damaged slot reason is d) = believed sound finds _ d.it (refuses_rightly step)
      by (reads_all answer is s once) = believed sound finds _ s (refuses_rightly step)
      by (refused why is told same) = none_refused why is
      by (out_of_memory none is same) = λ asked bodies files b left told. let no : taken.Step (reply.Refused OutOfMemory) ≡ taken.Step (reply.Refused Damaged) = sym is ∙ told in cc

-- ---- an outcome

module _ (old : CoreView) (sound : IsSoundView old) (made : Made) where
  alone : HandsOpener old made → (out_of_opener old.opener ≡ Some made.request.id) × (old.outs ≡ opener_alone made.request.id)
  alone it = alone_is (parts_in old sound.room) made.request.id sound.is it.out

  closed : HandsOpener old made → old.standing ≢ Open
  closed it = closed_by old.opener made.request.id old.standing old.phases sound.is.opening (alone it).0

  none_now : HandsOpener old made → slice_set old.outs 2 None ≡ nobody
  none_now it = set_nobody old.outs made.request.id (alone it).1

  follows : (it : HandsOpener old made) → FollowsOutcome old.phases made (phases_after old.phases made.request.id it.phase (is_done made.answer)) (closes_for_sure it.phase made.request.id.call)
  follows it = record { phase = it.phase; is = it.phase_is; count = count_stays old.phases made.request.id it.phase (is_done made.answer); phases = refl; closes = refl }

  learnt : OpenerSteps → (new : CoreView) → LearnsSlot old made new → HandedIn old 2 made reply.Worked new
  learnt laws new l =
      let t = taught_opener old.opener made l.after l.teaches in
      subst (HandedIn old 2 made reply.Worked) (sym l.new_is) (handed_on laws old _ made t.opener t.next (record {
        rest = record { closed = closed l.it; base = refl; items = refl; memory = refl; standing = refl; catalog = refl; dumper = refl; numbers = refl; grows = refl; committing = refl };
        alone = (alone l.it).1;
        outs = none_now l.it;
        whose = l.it.whose;
        sure = closes_for_sure l.it.phase made.request.id.call;
        follows = follows l.it;
      }) (λ phase handed. record {
        handed = handed;
        done = t.goes_on.done (ap out_of_opener (sym t.was) ∙ (alone l.it).0);
        was = t.was;
        is = t.is;
        moves = t.goes_on.moves;
        sees = t.goes_on.sees;
      }))

  failed : OpenerSteps → (new : CoreView) → FailsToOpen old made new → HandedIn old 2 made (reply.Refused StoreDown) new
  failed laws new f = subst (HandedIn old 2 made (reply.Refused StoreDown)) (sym f.new_is) (handed_failed laws old _ made StoreDown (record {
    rest = record { closed = closed f.it; base = refl; items = refl; memory = refl; standing = refl; catalog = refl; dumper = refl; numbers = refl; grows = refl; committing = refl };
    alone = (alone f.it).1;
    outs = none_now f.it;
    whose = f.it.whose;
    sure = closes_for_sure f.it.phase made.request.id.call;
    follows = follows f.it;
  }) refl)

  handed_at_two : OpenerSteps → (answer : Reply) (new : CoreView) → NextByOpenersOutcome old made answer new → (slice_get old.outs 2 ≡ Some (Some made.request.id)) × HandedIn old 2 made answer new
  handed_at_two laws answer new (learns is l) = (l.it.out, subst (λ a. HandedIn old 2 made a new) (sym is) (learnt laws new l))
  handed_at_two laws answer new (fails is f) = (f.it.out, subst (λ a. HandedIn old 2 made a new) (sym is) (failed laws new f))

  -- what is believed of the store stays
  pub opener_handed : OpenerSteps → (answer : Reply) (new : CoreView) → NextByOpenersOutcome old made answer new → (out : IsOut old made.request.id) → HandedIn old out.lane made answer new
  opener_handed laws answer new step out =
      let h = handed_at_two laws answer new step in
      subst (λ lane. HandedIn old lane made answer new) (same_lane (parts_in old sound.room) 2 out.lane made.request.id sound.is h.0 out.is) h.1

  -- ---- one that comes late

  pub late_other : (new : CoreView) → ComesLate old made new → made.request.id.worker ≢ Opener
  late_other new l = (is_late (parts_in old sound.room) l.lane made.request.id sound.is l.out l.idle).other

  pub late_handed : DumperOutcomes → {places : _} → MergerOutcomes places → (new : CoreView) → ComesLate old made new → (out : IsOut old made.request.id) → HandedIn old out.lane made (reply.Refused StoreDown) new
  late_handed dumper merges new l out = subst (λ lane. HandedIn old lane made (reply.Refused StoreDown) new) (same_lane (parts_in old sound.room) l.lane out.lane made.request.id sound.is l.out out.is)
      (subst (HandedIn old l.lane made (reply.Refused StoreDown)) (sym l.new_is)
      (handed_late dumper merges (parts_in old sound.room) l.lane made (phases_after old.phases made.request.id l.phase (is_done made.answer)) (slice_set old.outs l.lane None)
      (closes_for_sure l.phase made.request.id.call) sound.is (is_late (parts_in old sound.room) l.lane made.request.id sound.is l.out l.idle) l.out refl
      (record { phase = l.phase; is = l.phase_is; count = count_stays old.phases made.request.id l.phase (is_done made.answer); phases = refl; closes = refl })))

-- What an outcome leaves of its job and of the store, by its step; when it is answered that the store is down; and what
-- is counted as a checkpoint is acknowledged.
use Rattle.std.proofs.Common.{◌≡◌, ◌≢◌, ◌⊎◌, ◌↔◌, ℕ, ◌+◌, ◌<◌, true, false, if◌then◌else◌, ◌∷◌, length, is_none, Option, Some, None, refl, sym, ◌∙◌, ap, subst, inl, inr, arith}
use Rattle.std.proofs.lemmas.Bool.{both_ways}
use Rattle.sd_command.specs.declared.refusal.Refusal.TheVariants.{StoreDown}
use Rattle.sd_command.specs.declared.reply.Reply.{Reply}
use Rattle.sd_command.specs.declared.reply.Reply.TheVariants as reply
use Rattle.sd_gate.specs.declared.worker.Worker.TheVariants.{Dumper, Merger, Opener}
use Rattle.sd_gate.specs.Calls.{is_done}
use Rattle.sd_gate.specs.Plans.{plan_after}
use Rattle.sd_gate.specs.PlanUse.{outcomes_of}
use Rattle.sd_gate.specs.Requests.{Made}
use Rattle.sd_journal.specs.declared.entry.Entry.TheVariants.{Acked}
use Rattle.sd_journal.specs.Marked.{Told}
use Rattle.sd_merge.specs.declared.merge_progress.MergeProgress.{MergeProgress}
use Rattle.sd_merge.specs.declared.merge_progress.MergeProgress.TheVariants as progress
use Rattle.sd_merge.specs.Left as merge_left
use Rattle.sd_merge.specs.Merger as merger
use Rattle.sd_merge.specs.Merger.{AreRunning as AreMerging, Doing, HandsAt, copying, due, opened, retiring}
use Rattle.sd_pagetable.specs.Contents.{plain_of}
use Rattle.sd_rounds.specs.declared.progress.Progress.{Progress}
use Rattle.sd_rounds.specs.declared.progress.Progress.TheVariants as rounds
use Rattle.sd_rounds.specs.Dumper.{AreCounted, AreRunning, Dumping, IsCounted, Running, ends, is_frozen_image, is_strange, outcomes_since_freeze, HandsTo}
use Rattle.sd_rounds.specs.Left.{LeftLaws, left_of}
use Rattle.sd_rounds.specs.Making.{IsWritten, Making, PlanGoesOn, closing_outcomes, is_frozen_dump, outcomes_left}
use Rattle.sd_rounds.specs.Writes.{writes_out}
use Rattle.sd_crash_safety.specs.declared.standing.Standing.TheVariants.{Down, Open}
use Rattle.sd_crash_safety.specs.View.{CoreView}
use Rattle.sd_core.specs.Counted.{counted_by_outcome}
use Rattle.sd_core.specs.Images.{IsAcked, job_of}
use Rattle.sd_core.specs.Merging.{IsMore, retires_as}
use Rattle.sd_core.specs.Next.{Acknowledges, ComesLate, HandsIt, HandsMerge, MergedOpens, NextByDumpersOutcome, NextByMergersOutcome, NextByOpenersOutcome, fails, learns}
use Rattle.sd_core.specs.Sound.{Parts, out_of_opener}
use Rattle.sd_core.specs.SoundView.{IsSoundView, parts_in}
use Rattle.sd_core.specs.Working.{HasEnded, HasFallen, LeavesByOutcome, MovesOn, fallen, opener_left}
use Rattle.sd_core.proofs.BesideLemmas.{merger_works}
use Rattle.sd_core.proofs.CoreLemmas.{alone_is, closed_by, taught_opener}
use Rattle.sd_core.proofs.FallenLemmas.{by_worker, fallen_same, none_busy, opener_left_some, runs_by}
use Rattle.sd_core.proofs.HandedLemmas.{is_late}
use Rattle.sd_core.proofs.HandsDump.{dump_acked, frozen_so, work}
use Rattle.sd_core.proofs.MergeLemmas.{none_merges}
use Rattle.sd_core.proofs.NextHands.{since_is}
use Rattle.sd_core.proofs.NextOutcomes.{by_outcome, dump, known}
use Rattle.sd_core.proofs.NextMerging.{answer_of, by_merge}
use Rattle.sd_core.proofs.WorkLemmas.{at_work, none_closed}

some_left : (n : ℕ) → n ≢ 0 → 0 < n
some_left n some = grind arith

-- ---- the dumper's

module _ (old : CoreView) (sound : IsSoundView old) (made : Made) where
  -- the answer says whether the call was done
  pub dumper_fails : (answer : Reply) (new : CoreView) → NextByDumpersOutcome old made answer new → is_done made.answer ≡ false ↔ answer ≡ reply.Refused StoreDown
  dumper_fails answer new = by_outcome (λ a v. is_done made.answer ≡ false ↔ a ≡ reply.Refused StoreDown) old made answer new
      (λ g. (λ failed. absurd (both_ways (is_done made.answer) failed (done g.it.image g.next g.goes)), λ no. cc))
      (λ o. (λ failed. absurd (both_ways (is_done made.answer) failed o.opens.done), λ no. cc))
      (λ n o. (λ failed. absurd (both_ways (is_done made.answer) failed o.opens.done), λ no. cc))
      (λ it d. (λ failed. refl, λ is. d.failed))
    where
      done : (image next : Making) → PlanGoesOn image made next ⊎ IsWritten image made next → is_done made.answer ≡ true
      done image next (inl plan) = plan.done
      done image next (inr page) = page.done

  module _ (left : LeftLaws) where
    -- a checkpoint that goes on has fewer outcomes left
    lowers : (it : HandsIt old made) (progress : Progress) (next : Running) → HandsTo it.running made progress next → is_strange progress ≡ false
        → left_of (if ends progress then None else Some next) (plain_of old.memory) < left_of old.dumper.running (plain_of old.memory)
    lowers it progress next hands other = by progress hands other
      where
        after : Progress → Dumping
        after p = record { running = if ends p then None else Some next; since_freeze = outcomes_since_freeze it.running old.dumper.since_freeze }

        by : (p : Progress) → HandsTo it.running made p next → is_strange p ≡ false
            → left_of (if ends p then None else Some next) (plain_of old.memory) < left_of old.dumper.running (plain_of old.memory)
        by rounds.Strange hands other = absurd (let never : true ≡ false = other in cc)
        by rounds.Failed hands other = left.hands old.dumper made rounds.Failed (after rounds.Failed) (plain_of old.memory) (record { running = it.running; was = it.was; next = next; hands = hands; is = refl }) refl
        by rounds.More hands other = left.hands old.dumper made rounds.More (after rounds.More) (plain_of old.memory) (record { running = it.running; was = it.was; next = next; hands = hands; is = refl }) refl
        by (rounds.PreDump image) hands other = left.hands old.dumper made (rounds.PreDump image) (after (rounds.PreDump image)) (plain_of old.memory) (record { running = it.running; was = it.was; next = next; hands = hands; is = refl }) refl
        by (rounds.Dump image) hands other = left.hands old.dumper made (rounds.Dump image) (after (rounds.Dump image)) (plain_of old.memory) (record { running = it.running; was = it.was; next = next; hands = hands; is = refl }) refl

    -- one that runs has something left
    runs : (running : Running) → old.dumper.running ≡ Some running → 0 < left_of old.dumper.running (plain_of old.memory)
    runs running was = some_left _ (λ none. let no : None ≡ Some running = sym ((left.idle old.dumper.running (plain_of old.memory)).0 none) ∙ was in cc)

    pub dumper_outcome_leaves : (answer : Reply) (new : CoreView) → NextByDumpersOutcome old made answer new → LeavesByOutcome old Dumper answer new
    dumper_outcome_leaves answer new = by_outcome (λ a v. LeavesByOutcome old Dumper a v) old made answer new
        (λ g. subst (MovesOn old Dumper) (sym g.new_is) (record {
          stands = refl;
          job = ap job_of (sym g.it.was);
          lowers = lowers g.it rounds.More (record g.it.running { image = Some g.next }) (record { image = g.it.image; was = g.it.making; next = g.next; hands = g.goes; is = refl }) refl;
        }))
        (λ o. subst (MovesOn old Dumper) (sym o.new_is) (record {
          stands = refl;
          job = ap job_of (sym o.it.was);
          lowers = lowers o.it (rounds.PreDump o.image) _ (record { image = o.it.image; was = o.it.making; next = o.it.image; hands = o.opens }, o.more, refl) refl;
        }))
        (λ n o. subst (HasEnded old.standing old Dumper) (sym o.new_is) (record {
          stands_so = refl;
          lowers = runs o.it.running o.it.was;
          idle = refl;
        }))
        (λ it d. let w = at_work (parts_in old sound.room) it.running sound.is it.was in subst (HasFallen old Dumper) (sym d.new_is) (record {
          stands_so = ap fallen (sym w.stands);
          idle = by_worker _ refl refl (ap is_none w.closed);
          lowers = λ busy. runs it.running it.was;
        }))

  -- since the freeze there was an outcome for each data page of the dump, and five more
  module _ (new : CoreView) (after : IsSoundView new) where
    counted : (n : ℕ) (o : Acknowledges old made n new) → counted_by_outcome old Dumper ≡ o.image.header.pages + 5
    counted n o =
        let d = dump old sound made new after n o in
        let frozen : is_frozen_dump o.it.image ≡ true = frozen_so d in
        let count = (counts frozen).count in
        let left : outcomes_left o.it.image.stage ≡ 1 = ap outcomes_left o.opens.was ∙ sym o.opens.one ∙ ap (λ k. k + 1) none_left in
        let five : closing_outcomes o.it.image.stage ≡ 5 = ap closing_outcomes o.opens.was in
        let none : writes_out o.it.image.writes ≡ 0 = ap writes_out o.opens.rests in
        let pages = o.opens.pages in
        sym (since_is (known old sound made o.it) (outcomes_since_freeze o.it.running old.dumper.since_freeze) refl)
        ∙ ap (λ i. if is_frozen_image i then old.dumper.since_freeze + 1 else old.dumper.since_freeze) o.it.making
        ∙ ap (λ b. if b then old.dumper.since_freeze + 1 else old.dumper.since_freeze) frozen
        ∙ omega (arith, count, left, five, none, pages)
      where
        none_left : outcomes_of (plan_after o.opens.plan made) ≡ 0
        none_left = ap (λ calls. length calls + 0) o.opens.last

        counts : is_frozen_dump o.it.image ≡ true → IsCounted old.dumper.since_freeze o.it.image
        counts = subst (AreCounted old.dumper.since_freeze) o.it.making (subst (AreRunning old.dumper.since_freeze) o.it.was sound.orders).counts

    pub acked : (answer : Reply) → NextByDumpersOutcome old made answer new → (n : ℕ) → answer ≡ reply.Acked n → IsAcked n old new
    acked answer step n = by_outcome (λ a v. a ≡ reply.Acked n → IsAcked n old v) old made answer new
        (λ g is. absurd (let no : reply.Worked ≡ reply.Acked n = is in cc))
        (λ o is. absurd (let no : reply.Worked ≡ reply.Acked n = is in cc))
        (λ m o is. subst (IsAcked n old) (sym o.new_is) (dump_acked (dump old sound made new after m o) (record { first = old.base.folded; items = Told (Acked m) ∷ old.items; held = 0; limit = old.limit; room = 0; mark_room = 0 }) n
        (sym (work (known old sound made o.it)).number ∙ sym o.number ∙ same_number m n is) (counted m o)))
        (λ it d is. absurd (let no : reply.Refused StoreDown ≡ reply.Acked n = is in cc)) step
      where
        same_number : (m n : ℕ) → reply.Acked m ≡ reply.Acked n → m ≡ n
        same_number m n is = cc

-- ---- the merger's

module _ (old : CoreView) (sound : IsSoundView old) (made : Made) where
  pub merger_fails : (answer : Reply) (new : CoreView) → NextByMergersOutcome old made answer new → is_done made.answer ≡ false ↔ answer ≡ reply.Refused StoreDown
  merger_fails answer new = by_merge (λ a v. is_done made.answer ≡ false ↔ a ≡ reply.Refused StoreDown) old made answer new
      (λ g. (λ failed. absurd (both_ways (is_done made.answer) failed (goes_done g.it.merge.doing g.next g.progress g.more g.hands)), λ no. cc))
      (λ ended o. (λ failed. absurd (both_ways (is_done made.answer) failed o.opens.done), λ is. absurd (not_down ended is)))
      (λ serial e. (λ failed. absurd (both_ways (is_done made.answer) failed e.hands.0.done.done), λ no. cc))
      (λ it d. (λ failed. refl, λ is. d.failed))
    where
      not_down : (ended : Option ℕ) → answer_of ended ≡ reply.Refused StoreDown → ⊥
      not_down None is = cc
      not_down (Some serial) is = cc

      goes_done : (was next : Doing) (done : MergeProgress) → IsMore done → HandsAt was made done next → is_done made.answer ≡ true
      goes_done was next done more hands = grind arith

  module _ (left : merge_left.LeftLaws) where
    runs_on : (merge : merger.Running) → old.merger ≡ Some merge → 0 < merge_left.left_of old.merger
    runs_on merge was = some_left _ (λ none. let no : None ≡ Some merge = sym ((left.idle old.merger sound.merges).0 none) ∙ was in cc)

    less : (it : HandsMerge old made) (next : Doing) (done : MergeProgress) → IsMore done → HandsAt it.merge.doing made done next
        → merge_left.left_of (Some (record it.merge { doing = next })) < merge_left.left_of old.merger
    less it next done (inl is) hands = left.hands old.merger made progress.More (Some (record it.merge { doing = next })) (record {
      running = it.merge;
      was = it.was;
      next = record it.merge { doing = next };
      hands = record { hands = subst (λ d. HandsAt it.merge.doing made d next) is hands; is = refl };
      is = refl;
    }) refl sound.merges
    less it next done (inr (one, is)) hands = left.hands old.merger made (progress.Closed one) (Some (record it.merge { doing = next })) (record {
      running = it.merge;
      was = it.was;
      next = record it.merge { doing = next };
      hands = record { hands = subst (λ d. HandsAt it.merge.doing made d next) is hands; is = refl };
      is = refl;
    }) refl sound.merges

    -- the merged image opens, and the list is fixed
    opens_less : {done : MergeProgress} {new : CoreView} (o : MergedOpens old made done new) → merger.is_strange done ≡ false → merge_left.left_of o.rest < merge_left.left_of old.merger
    opens_less {done} o other =
        let image = progress.Opened o.image in
        let mid = record o.it.merge { doing = opened o.image.header.serial } in
        let first = left.hands old.merger made image (Some mid) (record {
          running = o.it.merge;
          was = o.it.was;
          next = mid;
          hands = record { hands = subst (λ d. HandsAt d made image (opened o.image.header.serial)) (sym o.doing) (record { copy = o.copied; hands = o.opens; is = refl }); is = refl };
          is = refl;
        }) refl sound.merges in
        let last = left.retires mid o.list done o.rest o.takes other o.is_list.few in
        omega (arith, first, last)

    pub merger_outcome_leaves : (answer : Reply) (new : CoreView) → NextByMergersOutcome old made answer new → LeavesByOutcome old Merger answer new
    merger_outcome_leaves answer new = by_merge (λ a v. LeavesByOutcome old Merger a v) old made answer new
        (λ g. subst (MovesOn old Merger) (sym g.new_is) (record { stands = refl; job = refl; lowers = less g.it g.next g.progress g.more g.hands }))
        (λ ended o. opens ended o)
        (λ serial e. (refl, subst (HasEnded old.standing old Merger) (sym e.new_is) (record { stands_so = refl; lowers = runs_on e.it.merge e.it.was; idle = refl })))
        (λ it d. let w = merger_works (parts_in old sound.room) it.merge sound.is it.was in subst (HasFallen old Merger) (sym d.new_is) (record {
          stands_so = ap fallen (sym w.stands);
          idle = by_worker _ refl refl (ap is_none w.closed);
          lowers = λ busy. runs_on it.merge it.was;
        }))
      where
        opens : (ended : Option ℕ) → MergedOpens old made (retires_as ended) new → LeavesByOutcome old Merger (answer_of ended) new
        opens None o = subst (MovesOn old Merger) (sym o.new_is) (record { stands = refl; job = refl; lowers = opens_less o refl })
        opens (Some serial) o = (refl, subst (HasEnded old.standing old Merger) (sym o.new_is) (record { stands_so = refl; lowers = opens_less o refl; idle = ap is_none o.takes.is }))

-- ---- the opener's, and one that comes late

module _ (old : CoreView) (sound : IsSoundView old) (made : Made) where
  abbrev core : Parts
  core = parts_in old sound.room

  pub opener_fails : (answer : Reply) (new : CoreView) → NextByOpenersOutcome old made answer new → is_done made.answer ≡ false → answer ≡ reply.Refused StoreDown
  opener_fails answer new (learns is x) failed =
      let a = alone_is core made.request.id sound.is x.it.out in
      let t = taught_opener old.opener made x.after x.teaches in
      absurd (both_ways (is_done made.answer) failed (t.goes_on.done (ap out_of_opener (sym t.was) ∙ a.0)))
  opener_fails answer new (fails is x) failed = is

  pub opener_outcome_leaves : (answer : Reply) (new : CoreView) → NextByOpenersOutcome old made answer new → LeavesByOutcome old Opener answer new
  opener_outcome_leaves answer new (learns is x) =
      let a = alone_is core made.request.id sound.is x.it.out in
      let t = taught_opener old.opener made x.after x.teaches in
      let less = t.goes_on.lowers (ap out_of_opener (sym t.was) ∙ a.0) in
      subst (λ r. LeavesByOutcome old Opener r new) (sym is) (subst (MovesOn old Opener) (sym x.new_is) (record {
        stands = refl;
        job = refl;
        lowers = subst (λ o. opener_left o < opener_left old.opener) (sym t.is) (subst (λ o. opener_left (Some t.next) < opener_left o) (sym t.was) less);
      }))
  opener_outcome_leaves answer new (fails is x) =
      let a = alone_is core made.request.id sound.is x.it.out in
      let looking = runs_by old.opener made.request.id a.0 in
      let closed = closed_by old.opener made.request.id old.standing old.phases sound.is.opening a.0 in
      subst (λ r. LeavesByOutcome old Opener r new) (sym is) (subst (HasFallen old Opener) (sym x.new_is) (record {
        stands_so = fallen_same old.standing closed;
        idle = by_worker _ (ap is_none (none_closed core sound.is closed)) (ap is_none (none_merges core sound.is closed)) refl;
        lowers = λ busy. subst (λ o. 0 < opener_left o) (sym looking.1) (opener_left_some looking.0);
      }))

  pub late_leaves : (new : CoreView) → ComesLate old made new → LeavesByOutcome old made.request.id.worker (reply.Refused StoreDown) new
  late_leaves new x =
      let late = is_late core x.lane made.request.id sound.is x.out x.idle in
      subst (HasFallen old made.request.id.worker) (sym x.new_is) (record {
        stands_so = late.down ∙ sym (ap fallen late.down);
        idle = by_worker _ (ap is_none (none_closed core sound.is (not_open late.down))) (ap is_none (none_merges core sound.is (not_open late.down))) (ap is_none late.closed);
        lowers = none_busy old made.request.id.worker x.idle;
      })
    where
      not_open : old.standing ≡ Down → old.standing ≢ Open
      not_open down is = let no : Down ≡ Open = sym down ∙ is in cc

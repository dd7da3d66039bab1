-- How a merge comes to close images, and to its end.
use Rattle.std.proofs.Common.{◌≡◌, ℕ, Bool, true, false, List, [], ◌∷◌, Option, Some, None, MatchOption, IfOk, IfSome, is_none, is_some, Result, refl, sym, ◌∙◌, ap, subst, inl, inr, arith}
use Rattle.sd_areas.specs.PlainMemory.{PlainMemory}
use Rattle.sd_command.specs.declared.command.Command.{Command as CommandOf}
use Rattle.sd_command.specs.declared.command.Command.TheVariants as command
use Rattle.sd_command.specs.declared.refusal.Refusal.{Refusal}
use Rattle.sd_command.specs.declared.refusal.Refusal.TheVariants.{Busy, Idle, StoreDown}
use Rattle.sd_command.specs.declared.reply.Reply.{Reply}
use Rattle.sd_command.specs.declared.reply.Reply.TheVariants as reply
use Rattle.sd_command.specs.Replies.{Accepts, reply_of as denied_as}
use Rattle.sd_disk.specs.declared.disk.Disk.{Ghosts}
use Rattle.sd_gate.specs.declared.answer.Answer.{Answer}
use Rattle.sd_gate.specs.declared.worker.Worker.{Worker}
use Rattle.sd_gate.specs.declared.worker.Worker.TheVariants.{Dumper, Merger, Opener}
use Rattle.sd_gate.specs.Calls.{is_done}
use Rattle.sd_merge.specs.declared.retired.Retired.{Retired}
use Rattle.sd_merge.specs.Merger as merger
use Rattle.sd_merge.specs.Merger.{Doing, Retiring, copying, due, opened, retiring, source_in, source_of}
use Rattle.sd_pagetable.specs.Contents.{Contents}
use Rattle.sd_pagetable.specs.declared.access_error.AccessError.{AccessError}
use Rattle.sd_pagetable.specs.declared.access_error.AccessError.TheVariants.{Refused}
use Rattle.sd_crash_safety.specs.Calls.{AddsByCancel, AddsByOrder, IsOut}
use Rattle.sd_journal.specs.History.{pending}
use Rattle.sd_crash_safety.specs.View.{CoreView, history_of}
use Rattle.sd_core.specs.declared.taken.Taken.{Taken}
use Rattle.sd_core.specs.declared.taken.Taken.TheVariants.{Step as StepTaken, Call as CallTaken}
use Rattle.sd_core.specs.Answering.{IsAnswered}
use Rattle.sd_core.specs.Beginning.{first_of}
use Rattle.sd_core.specs.Beside.{LeavesOthers}
use Rattle.sd_core.specs.Called.{IsHandedIn, IsMergeOrder, IsTakenUp}
use Rattle.sd_core.specs.Lasting.{fixed_in}
use Rattle.sd_core.specs.Merging.{IsSerialOf, MergesAs, OpensMerged, merge_refusal}
use Rattle.sd_core.specs.Refusals.{is_idle, must_wait, work_refusal}
use Rattle.sd_core.specs.Working.{LeavesByOutcome}
use Rattle.sd_world.specs.declared.event.Event.{Event}
use Rattle.sd_world.specs.declared.event.Event.TheVariants.{Command, Work, TakeUp, HandInAt, Perform, PerformAt, Merge, Cancel, Reopen, Trim}
use Rattle.sd_world.specs.Closing.{ClosesAfter, ComesToClose, EndsAfter, EndsIn, EntersIn, MergeCloses}
use Rattle.sd_world.specs.Merges.{DoesMerge, MergesThere}
use Rattle.sd_world.specs.Steps.{Does, HandsInAt, HandsInIfAny, IsCommand, Performs, WorkerTakesUp, WorkerWorks, answer_of, reply_of_answer}
use Rattle.sd_world.specs.Consistent.{IsWorld}
use Rattle.sd_world.specs.Trims.{TrimsJournal}
use Rattle.sd_world.specs.View.{WorldView}
use Rattle.sd_world.proofs.AddsLemmas.{is_out}
use Rattle.sd_world.proofs.KeptLemmas.{whose}
use Rattle.sd_world.proofs.TrimLemmas.{trim_cases}

-- ---- the merger of one core and the next

closing_same : (old new : CoreView) (slot serial : ℕ) → new.merger ≡ old.merger → MergeCloses new slot serial → MergeCloses old slot serial
closing_same old new slot serial same c = record { merge = c.merge; r = c.r; runs = sym same ∙ c.runs; doing = c.doing; in_slot = c.in_slot; own = c.own }

none_idle : (new : CoreView) (slot serial : ℕ) → MergeCloses new slot serial → is_idle new Merger ≡ true → ⊥
none_idle new slot serial c idle = let no : false ≡ true = sym (ap is_none c.runs) ∙ idle in cc

retiring_in : (doing : Doing) (serial : ℕ) (list : List Retired) → fixed_in doing ≡ Some (serial, list) → (r : Retiring) × (doing ≡ retiring r) × (r.serial ≡ serial)
retiring_in doing serial list is = grind arith

fixed_as : (doing : Doing) (r : Retiring) → doing ≡ retiring r → fixed_in doing ≡ Some (r.serial, r.list)
fixed_as doing r is = ap fixed_in is

idle_refused : (must : Bool) → (why : Refusal) × (first_of ((must, Busy) ∷ (true, Idle) ∷ []) ≡ Some why)
idle_refused true = (Busy, refl)
idle_refused false = (Idle, refl)

-- ---- a step, or a call that is taken up

module _ (old new : CoreView) (made : Taken) where
  merger_taken : IsTakenUp Merger old made new → (before : Option merger.Running) → old.merger ≡ before → (slot serial : ℕ) → MergeCloses new slot serial → MergeCloses old slot serial
  merger_taken taken None none slot serial c =
      let idle = idle_refused (must_wait old Merger) in
      let refused : work_refusal old Merger ≡ Some idle.0 = ap (λ o. first_of ((must_wait old Merger, Busy) ∷ (is_none o, Idle) ∷ [])) none ∙ idle.1 in
      absurd (let no : None ≡ Some c.merge = sym none ∙ ap (λ (v : CoreView). v.merger) (sym (taken.refused idle.0 refused).1) ∙ c.runs in cc)
  merger_taken taken (Some merge) was slot serial c =
      let same = taken.fixes merge c.merge was c.runs in
      let r = retiring_in merge.doing c.r.serial c.r.list (sym same ∙ fixed_as c.merge.doing c.r c.doing) in
      record {
        merge = merge;
        r = r.0;
        runs = was;
        doing = r.1;
        in_slot = sym (taken.lasts merge c.merge was c.runs).slot ∙ c.in_slot;
        own = r.2 ∙ c.own;
      }

  taken_closing : (worker : Worker) → IsTakenUp worker old made new → (slot serial : ℕ) → MergeCloses new slot serial → MergeCloses old slot serial
  taken_closing Dumper taken slot serial c = closing_same old new slot serial taken.beside.others.0 c
  taken_closing Merger taken slot serial c = merger_taken taken old.merger refl slot serial c
  taken_closing Opener taken slot serial c = closing_same old new slot serial taken.beside.others.1 c

-- ---- which replies aren't `merged`

none_accepted : (asked : CommandOf) (memory : PlainMemory) (serial : ℕ) → Accepts asked memory (reply.Merged serial) → ⊥
none_accepted asked memory serial is = grind arith

none_denied : (why : AccessError) (serial : ℕ) → reply.Merged serial ≡ denied_as why → ⊥
none_denied why serial is = grind arith

none_legal : (memory : PlainMemory) (asked : CommandOf) (serial : ℕ) (denial : Option AccessError)
    → MatchOption denial (Accepts asked memory (reply.Merged serial)) (λ why. reply.Merged serial ≡ denied_as why) → ⊥
none_legal memory asked serial denial is = grind arith

none_answered : (frozen : Bool) (asked : CommandOf) (serial : ℕ) (old new : Contents) → IsAnswered frozen asked (reply.Merged serial) old new → ⊥
none_answered frozen asked serial old new is = grind arith

none_replied : (answer : Answer) (serial : ℕ) → reply_of_answer answer ≡ reply.Merged serial → ⊥
none_replied answer serial is = grind arith

-- ---- an event

module _ {D : Type 0} (g : Ghosts D) (old new : WorldView D) (world : IsWorld g old) where
  commands_merge_none : (seat : ℕ) (asked : CommandOf) (answer : Reply) (serial : ℕ) → IsCommand seat asked old answer new → answer ≡ reply.Merged serial → ⊥
  commands_merge_none seat asked answer serial does is = by does.told does.answered does.applied.answered
    where
      frozen : Bool
      frozen = is_some (pending (history_of old.core))

      by : (told : Result (ℕ × Reply) Refusal) → answer ≡ answer_of told → IfOk told (λ t. IsAnswered frozen asked t.1 old.core.memory new.core.memory) → ⊥
      by told answered legal = grind arith

  module _ (worker : Worker) (place : ℕ) (answer : Reply) (hands : HandsInAt worker place old.core old.kept answer new.core new.kept) (there : MergesThere g worker place old answer new) where
    it : IsHandedIn hands.made answer old.core new.core
    it = hands.hands.does

    out : IsOut old.core hands.made.request.id
    out = is_out g old new world hands.lane hands.made hands.is

    own : hands.made.request.id.worker ≡ worker
    own = whose old.kept worker place hands.lane hands.made hands.at hands.is

    none_down : (slot serial : ℕ) → MergeCloses new.core slot serial → answer ≡ reply.Refused StoreDown → ⊥
    none_down slot serial c down =
        none_idle new.core slot serial c ((subst (λ a. LeavesByOutcome old.core hands.made.request.id.worker a new.core) down (it.leaves out)).idle Merger)

    enters_in : worker ≡ Merger → (merge : merger.Running) (serial slot : ℕ) → OpensMerged merge serial old.core new.core → merge.slot ≡ slot → EntersIn g old new slot serial
    enters_in is merge serial slot opens at = record { merge = merge; opens = opens; in_slot = at; stands = there.enters hands.lane is hands.at merge serial opens }

    source_gone : (o : Option merger.Running) (merge : merger.Running) (r : Retiring) → o ≡ Some merge → merge.doing ≡ retiring r → source_of o ≡ None
    source_gone o merge r is doing = ap source_of is ∙ ap (source_in merge) doing

    closes_from : worker ≡ Merger → (merge : merger.Running) → old.core.merger ≡ Some merge → (doing : Doing) → merge.doing ≡ doing → (slot serial : ℕ) → (c : MergeCloses new.core slot serial)
        → merge.slot ≡ slot → IsSerialOf doing serial → ComesToClose g old new slot serial
    closes_from is merge was due doing slot serial c at own_serial = absurd own_serial
    closes_from is merge was (copying copy) doing slot serial c at own_serial =
        inr (enters_in is merge serial slot (subst (λ s. OpensMerged merge s old.core new.core) (sym own_serial)
        (it.opens out (own ∙ is) merge copy was doing (source_gone new.core.merger c.merge c.r c.runs c.doing) (none_down slot serial c))) at)
    closes_from is merge was (opened number) doing slot serial c at own_serial = absurd own_serial
    closes_from is merge was (retiring r) doing slot serial c at own_serial = inl (record { merge = merge; r = r; runs = was; doing = doing; in_slot = at; own = sym own_serial })

    merger_handed : worker ≡ Merger → (before : Option merger.Running) → old.core.merger ≡ before → (slot serial : ℕ) → MergeCloses new.core slot serial → ComesToClose g old new slot serial
    merger_handed is None none slot serial c = absurd (none_down slot serial c (it.late out (ap (is_idle old.core) (own ∙ is) ∙ ap is_none none)))
    merger_handed is (Some merge) was slot serial c =
        let same = it.lasts merge c.merge was c.runs in
        closes_from is merge was merge.doing refl slot serial c (sym same.slot ∙ c.in_slot)
        (subst (IsSerialOf merge.doing) c.own (subst (λ fixed. IfSome fixed (λ list. IsSerialOf merge.doing list.0)) (fixed_as c.merge.doing c.r c.doing) same.behind))

    others_handed : (its : Worker) → worker ≡ its → is_done hands.made.answer ≡ true → (slot serial : ℕ) → MergeCloses new.core slot serial → ComesToClose g old new slot serial
    others_handed Dumper is done slot serial c =
        inl (closing_same old.core new.core slot serial (subst (λ w. LeavesOthers w old.core new.core) (own ∙ is) ((it.beside out).others done)).0 c)
    others_handed Merger is done slot serial c = merger_handed is old.core.merger refl slot serial c
    others_handed Opener is done slot serial c =
        inl (closing_same old.core new.core slot serial (subst (λ w. LeavesOthers w old.core new.core) (own ∙ is) ((it.beside out).others done)).1 c)

    handed_closes : (done : Bool) → is_done hands.made.answer ≡ done → (slot serial : ℕ) → MergeCloses new.core slot serial → ComesToClose g old new slot serial
    handed_closes true done slot serial c = others_handed worker refl done slot serial c
    handed_closes false failed slot serial c = absurd (none_down slot serial c (it.failed out failed))

    -- ---- the end of a merge

    ends_from : (serial : ℕ) → answer ≡ reply.Merged serial → worker ≡ Merger → is_idle new.core Merger ≡ true → (merge : merger.Running) → old.core.merger ≡ Some merge
        → (doing : Doing) → merge.doing ≡ doing → IsSerialOf doing serial → EndsIn g old new serial
    ends_from serial is own_worker idle merge was due doing own_serial = absurd own_serial
    ends_from serial is own_worker idle merge was (copying copy) doing own_serial = record {
      slot = merge.slot;
      comes = inr (enters_in own_worker merge serial merge.slot (subst (λ s. OpensMerged merge s old.core new.core) (sym own_serial)
          (it.opens out (own ∙ own_worker) merge copy was doing (gone new.core.merger idle) (λ down. (let no : reply.Merged serial ≡ reply.Refused StoreDown = sym is ∙ down in cc)))) refl);
      cut = there.cuts serial is;
    }
      where
        gone : (o : Option merger.Running) → is_none o ≡ true → source_of o ≡ None
        gone None none = refl
        gone (Some running) none = absurd (let no : false ≡ true = none in cc)
    ends_from serial is own_worker idle merge was (opened number) doing own_serial = absurd own_serial
    ends_from serial is own_worker idle merge was (retiring r) doing own_serial =
        record { slot = merge.slot; comes = inl (record { merge = merge; r = r; runs = was; doing = doing; in_slot = refl; own = sym own_serial }); cut = there.cuts serial is }

    handed_ends : (serial : ℕ) → answer ≡ reply.Merged serial → EndsIn g old new serial
    handed_ends serial is =
        let leaves = subst (λ a. LeavesByOutcome old.core hands.made.request.id.worker a new.core) is (it.leaves out) in
        let merged = it.merged serial out is in
        ends_from serial is (sym own ∙ leaves.0) (subst (λ w. is_idle new.core w ≡ true) leaves.0 leaves.1.idle) merged.merge merged.was merged.merge.doing refl merged.own

  same_core : new.core.merger ≡ old.core.merger → ClosesAfter g old new
  same_core same slot serial c = inl (closing_same old.core new.core slot serial same c)

  taken_closes : (worker : Worker) (answer : Reply) → WorkerTakesUp worker old.core old.kept answer new.core new.kept → ClosesAfter g old new
  taken_closes worker answer (WorkerTakesUp.step taken left) slot serial c = inl (taken_closing old.core new.core (StepTaken answer) worker taken slot serial c)
  taken_closes worker answer (WorkerTakesUp.call request taken left worked) slot serial c = inl (taken_closing old.core new.core (CallTaken request) worker taken slot serial c)

  hand_in_closes : (worker : Worker) (place : ℕ) (answer : Reply) → MergesThere g worker place old answer new → HandsInIfAny worker place old.core old.kept answer new.core new.kept → ClosesAfter g old new
  hand_in_closes worker place answer there (HandsInIfAny.hands_in hands) slot serial c = handed_closes worker place answer hands there (is_done hands.made.answer) refl slot serial c
  hand_in_closes worker place answer there (HandsInIfAny.none none idle) slot serial c = same_core (ap (λ (v : CoreView). v.merger) idle.core) slot serial c

  work_closes : (worker : Worker) (answer : Reply) → MergesThere g worker 0 old answer new → WorkerWorks worker old.core old.kept answer new.core new.kept → ClosesAfter g old new
  work_closes worker answer there (WorkerWorks.hands_in hands) slot serial c = handed_closes worker 0 answer hands there (is_done hands.made.answer) refl slot serial c
  work_closes worker answer there (WorkerWorks.takes_up none takes) slot serial c = taken_closes worker answer takes slot serial c

  order_closes : (answer : Reply) → IsMergeOrder answer old.core new.core → ClosesAfter g old new
  order_closes answer order = by (merge_refusal old.core) refl
    where
      stays : new.core ≡ old.core → ClosesAfter g old new
      stays same = same_core (ap (λ (v : CoreView). v.merger) same)

      refused : (why : Refusal) → MergesAs old.core (reply.Refused why) new.core → ClosesAfter g old new
      refused why merges = grind arith

      begun : (a : Reply) → MergesAs old.core a new.core → ClosesAfter g old new
      begun a merges slot serial c = grind arith

      by : (why : Option Refusal) → merge_refusal old.core ≡ why → ClosesAfter g old new
      by why is = grind arith

  trim_closes : (answer : Reply) → TrimsJournal old.core answer new.core → ClosesAfter g old new
  trim_closes answer trims = elim (trim_cases old.core answer new.core trims) [
    | inl gone ↦ same_core (ap (λ (v : CoreView). v.merger) gone.is)
    | inr all ↦ same_core (ap (λ (v : CoreView). v.merger) all.is)
  ]

  pub step_closes : (event : Event) (answer : Reply) → Does g event old answer new → DoesMerge g event old answer new → ClosesAfter g old new
  step_closes (Command seat command) answer does merges = same_core does.applied.merge
  step_closes (Work worker) answer does merges = work_closes worker answer merges does.works
  step_closes (TakeUp worker) answer does merges = taken_closes worker answer does.takes
  step_closes (HandInAt worker place) answer does merges = hand_in_closes worker place answer merges does.hands
  step_closes (Perform worker) answer does merges = same_core (ap (λ (v : CoreView). v.merger) does.core)
  step_closes (PerformAt worker place) answer does merges = same_core (ap (λ (v : CoreView). v.merger) does.core)
  step_closes Merge answer does merges = order_closes answer does.1
  step_closes Reopen answer does merges = same_core does.1.beside.others.1
  step_closes Trim answer does merges = trim_closes answer does.trims
  step_closes _ answer does merges = same_core does.1.beside.others.0

  -- ---- what ends one

  take_up_ends : (worker : Worker) (answer : Reply) (serial : ℕ) → WorkerTakesUp worker old.core old.kept answer new.core new.kept → answer ≡ reply.Merged serial → ⊥
  take_up_ends worker answer serial given is = grind arith

  none_kept_ends : (answer : Reply) (serial : ℕ) → answer ≡ reply.Refused Idle → answer ≡ reply.Merged serial → ⊥
  none_kept_ends answer serial idle is = (let no : reply.Refused Idle ≡ reply.Merged serial = sym idle ∙ is in cc)

  hand_in_ends : (worker : Worker) (place : ℕ) (answer : Reply) → MergesThere g worker place old answer new → HandsInIfAny worker place old.core old.kept answer new.core new.kept
      → EndsAfter g old answer new
  hand_in_ends worker place answer there (HandsInIfAny.hands_in hands) serial is = handed_ends worker place answer hands there serial is
  hand_in_ends worker place answer there (HandsInIfAny.none none idle) serial is = absurd (none_kept_ends answer serial idle.refused is)

  work_ends : (worker : Worker) (answer : Reply) → MergesThere g worker 0 old answer new → WorkerWorks worker old.core old.kept answer new.core new.kept → EndsAfter g old answer new
  work_ends worker answer there (WorkerWorks.hands_in hands) serial is = handed_ends worker 0 answer hands there serial is
  work_ends worker answer there (WorkerWorks.takes_up none takes) serial is = absurd (take_up_ends worker answer serial takes is)

  perform_ends : (worker : Worker) (place : ℕ) (answer : Reply) (serial : ℕ) → Performs g worker place old.disk old.kept answer new.disk new.kept → answer ≡ reply.Merged serial → ⊥
  perform_ends worker place answer serial given is = grind arith

  trim_ends : (answer : Reply) (serial : ℕ) → TrimsJournal old.core answer new.core → answer ≡ reply.Merged serial → ⊥
  trim_ends answer serial trims is = elim (trim_cases old.core answer new.core trims) [
    | inl gone ↦ (let no = sym gone.answered ∙ is in cc)
    | inr all ↦ (let no = sym all.answered ∙ is in cc)
  ]

  pub step_ends : (event : Event) (answer : Reply) → Does g event old answer new → DoesMerge g event old answer new → EndsAfter g old answer new
  step_ends (Command seat command) answer does merges serial is = absurd (commands_merge_none seat command answer serial does is)
  step_ends (Work worker) answer does merges serial is = work_ends worker answer merges does.works serial is
  step_ends (TakeUp worker) answer does merges serial is = absurd (take_up_ends worker answer serial does.takes is)
  step_ends (HandInAt worker place) answer does merges serial is = hand_in_ends worker place answer merges does.hands serial is
  step_ends (Perform worker) answer does merges serial is = absurd (perform_ends worker 0 answer serial does.performs is)
  step_ends (PerformAt worker place) answer does merges serial is = absurd (perform_ends worker place answer serial does.performs is)
  step_ends Cancel answer does merges serial is = absurd (subst (λ a. AddsByCancel a (history_of old.core) (history_of new.core)) is does.1.adds)
  step_ends Trim answer does merges serial is = absurd (trim_ends answer serial does.trims is)
  step_ends _ answer does merges serial is = absurd (subst (λ a. AddsByOrder a (history_of old.core) (history_of new.core)) is does.1.adds)

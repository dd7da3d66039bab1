-- What each event adds to the journal, and where it leaves the disk.
use Rattle.std.proofs.Common.{◌≡◌, ◌≢◌, ℕ, List, [], ◌∷◌, ◌++◌, Some, Result, refl, slice_get, sym, ◌∙◌, ap, subst, inl, inr, arith}
use Rattle.sd_command.specs.declared.command.Command.{Command as CommandOf}
use Rattle.sd_command.specs.declared.refusal.Refusal.{Refusal}
use Rattle.sd_command.specs.declared.reply.Reply.{Reply}
use Rattle.sd_disk.specs.Crash.{Within}
use Rattle.sd_disk.specs.Spans.{LeavesOnly, nothing_called, one_call}
use Rattle.sd_disk.specs.declared.disk.Disk.{Ghosts}
use Rattle.sd_gate.specs.declared.answer.Answer.{Answer}
use Rattle.sd_gate.specs.declared.worker.Worker.{Worker}
use Rattle.sd_gate.specs.Requests.{Made}
use Rattle.sd_journal.specs.History.{History}
use Rattle.sd_journal.specs.Marked.{Marked, Noted, Told, entries_of}
use Rattle.sd_crash_safety.specs.Calls.{AddsByOutcome, AddsByStep, Applies, IsOut}
use Rattle.sd_crash_safety.specs.View.{CoreView, history_of}
use Rattle.sd_world.specs.declared.event.Event.{Event}
use Rattle.sd_world.specs.declared.event.Event.TheVariants.{Command, Work, TakeUp, HandInAt, Perform, PerformAt, Trim}
use Rattle.sd_world.specs.declared.kept.Kept.TheVariants.{Outcome}
use Rattle.sd_world.specs.Adds.{AddsByCommand, AddsByPerform, AddsByTrim, AddsByWork, AddsToJournal}
use Rattle.sd_world.specs.Consistent.{IsWorld}
use Rattle.sd_world.specs.Steps.{Does, HandsInAt, HandsInIfAny, IsCommand, Performs, WorkerTakesUp, WorkerWorks, answer_of, reply_of_answer}
use Rattle.sd_world.specs.View.{WorldView, kept_id}
use Rattle.sd_world.specs.Trims.{TrimsJournal}
use Rattle.sd_world.proofs.KeptLemmas.{whose}
use Rattle.sd_world.proofs.Lists.{get_map}
use Rattle.sd_world.proofs.TrimLemmas.{trim_cases}

adds_by_step : (worker : Worker) (core : CoreView) (answer : Reply) (old new : History) → AddsByStep worker core answer old new
    → AddsByWork worker core answer old new
adds_by_step worker core answer old new adds = grind arith

adds_by_outcome : (worker : Worker) (core : CoreView) (answer : Reply) (old new : History) → AddsByOutcome worker answer old new
    → AddsByWork worker core answer old new
adds_by_outcome worker core answer old new adds = grind arith

adds_by_perform : (answer : Answer) (old new : History) → new ≡ old → AddsByPerform (reply_of_answer answer) old new
adds_by_perform answer old new same = grind arith

told_adds : (seat : ℕ) (command : CommandOf) (told : Result (ℕ × Reply) Refusal) (old new : CoreView) → Applies seat command told old new
    → AddsByCommand seat command (answer_of told) (history_of old) (history_of new)
told_adds seat command told old new applies = grind arith

module _ {D : Type 0} (g : Ghosts D) (old new : WorldView D) (world : IsWorld g old) where
  -- the outcome that is kept in a lane is out in it
  pub is_out : (lane : ℕ) (made : Made) → slice_get old.kept lane ≡ Some (Outcome made) → IsOut old.core made.request.id
  is_out lane made at = record { lane = lane; is = ap (λ outs. slice_get outs lane) world.outs ∙ get_map kept_id old.kept lane (Outcome made) at }

  -- ---- the journal

  taken_adds : (worker : Worker) (answer : Reply) → WorkerTakesUp worker old.core old.kept answer new.core new.kept
      → AddsByWork worker old.core answer (history_of old.core) (history_of new.core)
  taken_adds worker answer given = grind arith

  handed_adds : (worker : Worker) (place : ℕ) (answer : Reply) → HandsInAt worker place old.core old.kept answer new.core new.kept
      → AddsByWork worker old.core answer (history_of old.core) (history_of new.core)
  handed_adds worker place answer hands =
      let handed = hands.hands.does.handed (is_out hands.lane hands.made hands.is) in
      adds_by_outcome worker old.core answer (history_of old.core) (history_of new.core)
      (subst (λ w. AddsByOutcome w answer (history_of old.core) (history_of new.core)) (whose old.kept worker place hands.lane hands.made hands.at hands.is) handed.adds)

  work_adds : (worker : Worker) (answer : Reply) → WorkerWorks worker old.core old.kept answer new.core new.kept
      → AddsByWork worker old.core answer (history_of old.core) (history_of new.core)
  work_adds worker answer (WorkerWorks.hands_in hands) = handed_adds worker 0 answer hands
  work_adds worker answer (WorkerWorks.takes_up none takes) = taken_adds worker answer takes

  hand_in_adds : (worker : Worker) (place : ℕ) (answer : Reply) → HandsInIfAny worker place old.core old.kept answer new.core new.kept
      → AddsByWork worker old.core answer (history_of old.core) (history_of new.core)
  hand_in_adds worker place answer (HandsInIfAny.hands_in hands) = handed_adds worker place answer hands
  hand_in_adds worker place answer (HandsInIfAny.none none idle) =
      subst (λ a. AddsByWork worker old.core a (history_of old.core) (history_of new.core)) (sym idle.refused) (ap history_of idle.core)

  perform_adds : (worker : Worker) (place : ℕ) (answer : Reply) → Performs g worker place old.disk old.kept answer new.disk new.kept → new.core ≡ old.core
      → AddsByPerform answer (history_of old.core) (history_of new.core)
  perform_adds worker place answer given core = grind arith

  trim_adds : (answer : Reply) → TrimsJournal old.core answer new.core → AddsByTrim answer (history_of old.core) (history_of new.core)
  trim_adds answer trims = elim (trim_cases old.core answer new.core trims) [
    | inl gone ↦ subst (λ a. AddsByTrim a (history_of old.core) (history_of new.core)) (sym gone.answered) (record {
      taken = entries_of gone.front;
      parts = ap entries_of gone.parts ∙ both gone.kept gone.front ∙ ap (λ (c : CoreView). history_of c ++ entries_of gone.front) (sym gone.is);
      many = refl;
    })
    | inr all ↦ subst (λ a. AddsByTrim a (history_of old.core) (history_of new.core)) (sym all.answered) (ap history_of all.is)
  ]
    where
      both : (kept front : Marked) → entries_of (kept ++ front) ≡ entries_of kept ++ entries_of front
      both [] front = refl
      both (Told entry ∷ kept) front = ap (λ h. entry ∷ h) (both kept front)
      both (Noted mark ∷ kept) front = both kept front

  command_adds : (seat : ℕ) (command : CommandOf) (answer : Reply) → IsCommand seat command old answer new
      → AddsByCommand seat command answer (history_of old.core) (history_of new.core)
  command_adds seat command answer does = subst (λ a. AddsByCommand seat command a (history_of old.core) (history_of new.core)) (sym does.answered)
      (told_adds seat command does.told old.core new.core does.applied.applies)

  pub step_adds : (event : Event) (answer : Reply) → Does g event old answer new → AddsToJournal event answer old.core new.core
  step_adds (Command seat command) answer does = command_adds seat command answer does
  step_adds (Work worker) answer does = work_adds worker answer does.works
  step_adds (TakeUp worker) answer does = taken_adds worker answer does.takes
  step_adds (HandInAt worker place) answer does = hand_in_adds worker place answer does.hands
  step_adds (Perform worker) answer does = perform_adds worker 0 answer does.performs does.core
  step_adds (PerformAt worker place) answer does = perform_adds worker place answer does.performs does.core
  step_adds Trim answer does = trim_adds answer does.trims
  step_adds _ answer does = does.1.adds

  -- ---- the base

  taken_base : (worker : Worker) (answer : Reply) → WorkerTakesUp worker old.core old.kept answer new.core new.kept → new.core.base ≡ old.core.base
  taken_base worker answer given = grind arith

  handed_base : (worker : Worker) (place : ℕ) (answer : Reply) → HandsInAt worker place old.core old.kept answer new.core new.kept → new.core.base ≡ old.core.base
  handed_base worker place answer hands = (hands.hands.does.handed (is_out hands.lane hands.made hands.is)).base

  work_base : (worker : Worker) (answer : Reply) → WorkerWorks worker old.core old.kept answer new.core new.kept → new.core.base ≡ old.core.base
  work_base worker answer (WorkerWorks.hands_in hands) = handed_base worker 0 answer hands
  work_base worker answer (WorkerWorks.takes_up none takes) = taken_base worker answer takes

  hand_in_base : (worker : Worker) (place : ℕ) (answer : Reply) → HandsInIfAny worker place old.core old.kept answer new.core new.kept → new.core.base ≡ old.core.base
  hand_in_base worker place answer (HandsInIfAny.hands_in hands) = handed_base worker place answer hands
  hand_in_base worker place answer (HandsInIfAny.none none idle) = ap (λ (c : CoreView). c.base) idle.core

  pub step_base : (event : Event) (answer : Reply) → Does g event old answer new → event ≢ Trim → new.core.base ≡ old.core.base
  step_base (Command seat command) answer does other = does.applied.keeps.base
  step_base (Work worker) answer does other = work_base worker answer does.works
  step_base (TakeUp worker) answer does other = taken_base worker answer does.takes
  step_base (HandInAt worker place) answer does other = hand_in_base worker place answer does.hands
  step_base (Perform worker) answer does other = ap (λ (c : CoreView). c.base) does.core
  step_base (PerformAt worker place) answer does other = ap (λ (c : CoreView). c.base) does.core
  step_base Trim answer does other = absurd (other refl)
  step_base _ answer does other = does.1.keeps.base

  -- ---- the disk

  perform_honest : (worker : Worker) (place : ℕ) (answer : Reply) → Performs g worker place old.disk old.kept answer new.disk new.kept
      → g.is_honest new.disk → g.is_honest old.disk
  perform_honest worker place answer (Performs.none none idle) = subst g.is_honest idle.disk
  perform_honest worker place answer (Performs.performs performs) = performs.keeps.performed.one_call.honest

  pub step_honest : (event : Event) (answer : Reply) → Does g event old answer new → g.is_honest new.disk → g.is_honest old.disk
  step_honest (Command seat command) answer does = subst g.is_honest does.rest.disk
  step_honest (Work worker) answer does = subst g.is_honest does.disk
  step_honest (TakeUp worker) answer does = subst g.is_honest does.disk
  step_honest (HandInAt worker place) answer does = subst g.is_honest does.disk
  step_honest (Perform worker) answer does = perform_honest worker 0 answer does.performs
  step_honest (PerformAt worker place) answer does = perform_honest worker place answer does.performs
  step_honest Trim answer does = subst g.is_honest does.disk
  step_honest _ answer does = subst g.is_honest does.0.disk

  module _ (P : List (List ℕ) → Type 0) (only_now : Within (g.left_since old.disk (g.moment old.disk)) (g.may_leave old.disk))
      (before : Within (g.may_leave old.disk) P) where
    no_call : new.disk ≡ old.disk → LeavesOnly g old.disk new.disk P
    no_call same = subst (λ d. LeavesOnly g old.disk d P) (sym same) (nothing_called g old.disk P (g.may_leave old.disk) only_now before)

    perform_span : (worker : Worker) (place : ℕ) (answer : Reply) → Performs g worker place old.disk old.kept answer new.disk new.kept
        → Within (g.may_leave new.disk) P → LeavesOnly g old.disk new.disk P
    perform_span worker place answer (Performs.none none idle) after = no_call idle.disk
    perform_span worker place answer (Performs.performs performs) after =
        one_call g old.disk old.disk new.disk P (g.may_leave new.disk) no_call_yet performs.keeps.performed.one_call.time after
      where
        no_call_yet : LeavesOnly g old.disk old.disk P
        no_call_yet = nothing_called g old.disk P (g.may_leave old.disk) only_now before

    -- a crash at any moment of the event leaves what it may leave before, or after a device call
    pub step_span : (event : Event) (answer : Reply) → Does g event old answer new
        → (new.core ≡ old.core → Within (g.may_leave new.disk) P) → LeavesOnly g old.disk new.disk P
    step_span event answer does after = grind arith

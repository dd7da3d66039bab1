-- What an opener leaves that opened a store again, after its world's opening.
use Rattle.std.proofs.Common.{◌≡◌, ℕ, Bool, true, false, List, [], ◌∷◌, if◌then◌else◌, Option, Some, None, refl, sym, ◌∙◌, ap, subst, arith}
use Rattle.std.specs.List.{AllByRecursion}
use Rattle.sd_command.specs.declared.refusal.Refusal.{Refusal}
use Rattle.sd_command.specs.declared.reply.Reply.{Reply}
use Rattle.sd_command.specs.declared.reply.Reply.TheVariants as reply
use Rattle.sd_disk.specs.declared.disk.Disk.{Ghosts}
use Rattle.sd_gate.specs.declared.worker.Worker.TheVariants.{Opener}
use Rattle.sd_journal.specs.declared.entry.Entry.TheVariants as entry
use Rattle.sd_journal.specs.History.{Base, History, last as last_number, pending}
use Rattle.sd_journal.specs.Marked.{entries_of}
use Rattle.sd_crash_safety.specs.declared.standing.Standing.TheVariants.{Open}
use Rattle.sd_crash_safety.specs.Calls.{AddsByOrder}
use Rattle.sd_crash_safety.specs.View.{CoreView, history_of}
use Rattle.sd_core.specs.declared.taken.Taken.TheVariants.{Step}
use Rattle.sd_core.specs.Called.{IsTakenUp}
use Rattle.sd_core.specs.Grown.{has_visited_all}
use Rattle.sd_core.specs.Opening.{IsExpected, awaited_checkpoint}
use Rattle.sd_core.specs.Refusals.{work_refusal}
use Rattle.sd_world.specs.declared.event.Event.TheVariants.{Perform, Reopen, Trim, Work}
use Rattle.sd_world.specs.Adds.{AddsByPerform, AddsByWork}
use Rattle.sd_world.specs.Jobs.{Drives, IsJob, is_end, next_event}
use Rattle.sd_world.specs.Runs.{IsStep}
use Rattle.sd_world.specs.Steps.{WorkerWorks}
use Rattle.sd_world.specs.View.{WorldView, is_asked}
use Rattle.sd_world.proofs.DriveLemmas.{call_next, step_next}
use Rattle.sd_world.proofs.JobLemmas.{last_event}

-- ---- what goes on adds nothing

by_order : (answer : Reply) (old new : History) → AddsByOrder answer old new → is_end answer ≡ false → new ≡ old
by_order answer old new adds goes = grind arith

by_call : (answer : Reply) (old new : History) → AddsByPerform answer old new → is_end answer ≡ false → new ≡ old
by_call answer old new adds goes = grind arith

by_work : (core : CoreView) (answer : Reply) (old new : History) → AddsByWork Opener core answer old new → is_end answer ≡ false → new ≡ old
by_work core answer old new adds goes = grind arith

either : (b : Bool) (n : Option ℕ) → (if b then n else n) ≡ n
either b n = grind arith

-- ---- the step that opens

-- the store is open, what was found is its last checkpoint or the awaited one, and its entry is added
record Opens (old : CoreView) (m : Option ℕ) (new : CoreView) : Type 0 where
  stands : new.standing ≡ Open
  expected : IsExpected (last_number old.base (history_of old)) (awaited_checkpoint old) m
  entry : history_of new ≡ entry.Reopened m ∷ history_of old

taken_opens : (old : CoreView) (m : Option ℕ) (new : CoreView) → IsTakenUp Opener old (Step (reply.Reopened m)) new → Opens old m new
taken_opens old m new up = by (work_refusal old Opener) refl
  where
    by : (o : Option Refusal) → work_refusal old Opener ≡ o → Opens old m new
    by None is = record { stands = (up.leaves is).stands_so; expected = up.shows refl m refl; entry = up.takes.adds.1 }
    by (Some why) is = absurd (let no : Step (reply.Reopened m) ≡ Step (reply.Refused why) = (up.refused why is).0 in cc)

module _ {D : Type 0} (g : Ghosts D) where
  works_open : (old new : WorldView D) (m : Option ℕ) → WorkerWorks Opener old.core old.kept (reply.Reopened m) new.core new.kept → Opens old.core m new.core
  works_open old new m given = grind arith

  event_opens : (old new : WorldView D) (m : Option ℕ) → IsStep g (next_event old.kept Opener) old (reply.Reopened m) new → Opens old.core m new.core
  event_opens old new m step = by (is_asked old.kept Opener) refl
    where
      by : (b : Bool) → is_asked old.kept Opener ≡ b → Opens old.core m new.core
      by true is =
          let called = subst (λ event. IsStep g event old (reply.Reopened m) new) (call_next g Opener old is) step in
          absurd called.adds
      by false is =
          let worked = subst (λ event. IsStep g event old (reply.Reopened m) new) (step_next g Opener old is) step in
          works_open old new m worked.does.works

  -- ---- the events before it

  record Keeps (first last : WorldView D) : Type 0 where
    base : last.core.base ≡ first.core.base
    history : history_of last.core ≡ history_of first.core

  event_base : (old new : WorldView D) (answer : Reply) → IsStep g (next_event old.kept Opener) old answer new → new.core.base ≡ old.core.base
  event_base old new answer step = by (is_asked old.kept Opener) refl
    where
      by : (b : Bool) → is_asked old.kept Opener ≡ b → new.core.base ≡ old.core.base
      by true is =
          let called = subst (λ event. IsStep g event old answer new) (call_next g Opener old is) step in
          called.base (λ no. (let not : Perform Opener ≡ Trim = no in cc))
      by false is =
          let worked = subst (λ event. IsStep g event old answer new) (step_next g Opener old is) step in
          worked.base (λ no. (let not : Work Opener ≡ Trim = no in cc))

  event_keeps : (old new : WorldView D) (answer : Reply) → IsStep g (next_event old.kept Opener) old answer new → is_end answer ≡ false
      → history_of new.core ≡ history_of old.core
  event_keeps old new answer step goes = by (is_asked old.kept Opener) refl
    where
      by : (b : Bool) → is_asked old.kept Opener ≡ b → history_of new.core ≡ history_of old.core
      by true is =
          let called = subst (λ event. IsStep g event old answer new) (call_next g Opener old is) step in
          by_call answer _ _ called.adds goes
      by false is =
          let worked = subst (λ event. IsStep g event old answer new) (step_next g Opener old is) step in
          by_work old.core answer _ _ worked.adds goes

  drives_keep : (first last : WorldView D) (replies : List Reply) → Drives g Opener first replies last
      → AllByRecursion (λ reply. is_end reply ≡ false) replies → Keeps first last
  drives_keep first last [] drives goes =
      record { base = ap (λ (w : WorldView D). w.core.base) drives; history = ap (λ (w : WorldView D). history_of w.core) drives }
  drives_keep first last (r ∷ rs) drives goes =
      let rest = drives_keep drives.0 last rs drives.2 goes.1 in
      record {
        base = rest.base ∙ event_base first drives.0 r drives.1;
        history = rest.history ∙ event_keeps first drives.0 r drives.1 goes.0;
      }

  -- ---- after an opening

  none_awaited : (core : CoreView) → history_of core ≡ [] → awaited_checkpoint core ≡ None
  none_awaited core none = ap (λ history. if has_visited_all core.items then pending history else None) none ∙ either (has_visited_all core.items) None

  -- what was found is the number of the base, which stays; the store is open, and the journal has the one entry of that
  pub record IsBegun (opened world : WorldView D) : Type 0 where
    pub base : world.core.base ≡ opened.core.base
    pub job : IsJob g Reopen Opener opened (reply.Reopened world.core.base.number) world
    pub stands : world.core.standing ≡ Open
    pub journal : history_of world.core ≡ entry.Reopened world.core.base.number ∷ []

  finds_base : (core : CoreView) (m : Option ℕ) → history_of core ≡ [] → IsExpected (last_number core.base (history_of core)) (awaited_checkpoint core) m
      → m ≡ core.base.number
  finds_base core m none expected = grind arith

  pub job_begins : (opened world : WorldView D) (m : Option ℕ) → opened.core.items ≡ [] → IsJob g Reopen Opener opened (reply.Reopened m) world
      → IsBegun opened world
  job_begins opened world m none (IsJob.refused ends step) = absurd step.adds
  job_begins opened world m none (IsJob.finished begun mid goes step finished) =
      let it = last_event g Opener mid world finished.driven.before (reply.Reopened m) finished.driven.drives in
      let before = drives_keep mid it.0 finished.driven.before it.1 finished.driven.goes_on in
      let opens = event_opens it.0 world m it.2 in
      let first : history_of opened.core ≡ [] = ap entries_of none in
      let empty : history_of it.0.core ≡ [] = before.history ∙ by_order begun (history_of opened.core) (history_of mid.core) step.adds goes ∙ first in
      let last_base = event_base it.0 world (reply.Reopened m) it.2 in
      let is : m ≡ world.core.base.number = finds_base it.0.core m empty opens.expected ∙ sym (ap (λ (b : Base). b.number) last_base) in
      record {
        base = last_base ∙ before.base ∙ step.base (λ no. (let not : Reopen ≡ Trim = no in cc));
        job = subst (λ n. IsJob g Reopen Opener opened (reply.Reopened n) world) is (IsJob.finished begun mid goes step finished);
        stands = opens.stands;
        journal = subst (λ n. history_of world.core ≡ entry.Reopened n ∷ []) is (opens.entry ∙ ap (λ history. entry.Reopened m ∷ history) empty);
      }

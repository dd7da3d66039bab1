-- What ends a job: the last reply of its worker.
use Rattle.std.proofs.Common.{◌≡◌, ℕ, Bool, true, false, List, [], ◌∷◌, ◌++◌, Option, Ok, Err, refl, sym, subst, arith}
use Rattle.sd_command.specs.declared.refusal.Refusal.{Refusal}
use Rattle.sd_command.specs.declared.reply.Reply.{Reply}
use Rattle.sd_command.specs.declared.reply.Reply.TheVariants as reply
use Rattle.sd_disk.specs.Crash.{Within}
use Rattle.sd_disk.specs.declared.disk.Disk.{Ghosts}
use Rattle.sd_gate.specs.declared.worker.Worker.{Worker}
use Rattle.sd_gate.specs.declared.worker.Worker.TheVariants.{Dumper, Merger, Opener}
use Rattle.sd_journal.specs.History.{History}
use Rattle.sd_crash_safety.specs.Calls.{AddsByOrder}
use Rattle.sd_crash_safety.specs.View.{CoreView, history_of}
use Rattle.sd_world.specs.declared.event.Event.{Event}
use Rattle.sd_world.specs.declared.event.Event.TheVariants.{Begin, Merge, Reopen}
use Rattle.sd_world.specs.declared.kept.Kept.{Kept}
use Rattle.sd_world.specs.Adds.{AddsBy, AddsByPerform, AddsByWork}
use Rattle.sd_world.specs.Jobs.{Drives, EndsAs, IsJob, is_end, next_event}
use Rattle.sd_world.specs.Runs.{IsStep, ShowsReply}
use Rattle.sd_world.specs.Steps.{WorkerWorks}
use Rattle.sd_world.specs.View.{WorldView, is_asked}
use Rattle.sd_world.proofs.DriveLemmas.{call_next, step_next}
use Rattle.sd_world.proofs.KeptLemmas.{whose}

-- how a worker's job can end
data Ends (worker : Worker) (answer : Reply) : Type 0 where
  acked : (n : ℕ) → worker ≡ Dumper → answer ≡ reply.Acked n → Ends worker answer
  merged : (serial : ℕ) → worker ≡ Merger → answer ≡ reply.Merged serial → Ends worker answer
  reopened : (m : Option ℕ) → worker ≡ Opener → answer ≡ reply.Reopened m → Ends worker answer
  refused : (why : Refusal) → answer ≡ reply.Refused why → Ends worker answer

by_order : (worker : Worker) (answer : Reply) (old new : History) → AddsByOrder answer old new → is_end answer ≡ true → Ends worker answer
by_order worker (reply.Begun n) old new adds ends = absurd (let no : false ≡ true = ends in cc)
by_order worker reply.Worked old new adds ends = absurd (let no : false ≡ true = ends in cc)
by_order worker (reply.Refused why) old new adds ends = Ends.refused why refl
by_order worker _ old new adds ends = absurd adds

by_call : (worker : Worker) (answer : Reply) (old new : History) → AddsByPerform answer old new → is_end answer ≡ true → Ends worker answer
by_call worker reply.Worked old new adds ends = absurd (let no : false ≡ true = ends in cc)
by_call worker (reply.Refused why) old new adds ends = Ends.refused why refl
by_call worker _ old new adds ends = absurd adds

by_work : (worker : Worker) (core : CoreView) (answer : Reply) (old new : History) → ((serial : ℕ) → answer ≡ reply.Merged serial → worker ≡ Merger)
    → AddsByWork worker core answer old new → is_end answer ≡ true → Ends worker answer
by_work worker core reply.Worked old new merger adds ends = absurd (let no : false ≡ true = ends in cc)
by_work worker core (reply.Acked n) old new merger adds ends = Ends.acked n adds.0 refl
by_work worker core (reply.Merged serial) old new merger adds ends = Ends.merged serial (merger serial refl) refl
by_work worker core (reply.Reopened m) old new merger adds ends = Ends.reopened m adds.0 refl
by_work worker core (reply.Refused why) old new merger adds ends = Ends.refused why refl
by_work worker core _ old new merger adds ends = absurd adds

-- ---- a merge is ended by the merger alone

never_merged : (worker : Worker) (old : CoreView) (kept : List Kept) (serial : ℕ) (new : CoreView) (later : List Kept) → (worker ≡ Merger → ⊥)
    → WorkerWorks worker old kept (reply.Merged serial) new later → ⊥
never_merged worker old kept serial new later other given = grind arith

merger_of : (worker : Worker) (old : CoreView) (kept : List Kept) (serial : ℕ) (new : CoreView) (later : List Kept)
    → WorkerWorks worker old kept (reply.Merged serial) new later → worker ≡ Merger
merger_of worker old kept serial new later works = grind arith

-- ---- a whole job

module _ {D : Type 0} (g : Ghosts D) where
  -- the last of a worker's next events, and those before it
  pub last_event : (worker : Worker) (first last : WorldView D) (before : List Reply) (answer : Reply) → Drives g worker first (before ++ answer ∷ []) last
      → (mid : WorldView D) × Drives g worker first before mid × IsStep g (next_event mid.kept worker) mid answer last
  last_event worker first last [] answer drives =
      (first, refl, subst (λ (world : WorldView D). IsStep g (next_event first.kept worker) first answer world) (sym drives.2) drives.1)
  last_event worker first last (r ∷ rs) answer drives =
      let rest = last_event worker drives.0 last rs answer drives.2 in
      (rest.0, (drives.0, drives.1, rest.1), rest.2)

  event_ends : (worker : Worker) (old new : WorldView D) (answer : Reply) → IsStep g (next_event old.kept worker) old answer new → is_end answer ≡ true
      → Ends worker answer
  event_ends worker old new answer step ends = by (is_asked old.kept worker) refl
    where
      by : (b : Bool) → is_asked old.kept worker ≡ b → Ends worker answer
      by true is =
          let called = subst (λ event. IsStep g event old answer new) (call_next g worker old is) step in
          by_call worker answer _ _ called.adds ends
      by false is =
          let worked = subst (λ event. IsStep g event old answer new) (step_next g worker old is) step in
          by_work worker old.core answer _ _
          (λ serial told. merger_of worker old.core old.kept serial new.core new.kept
          (subst (λ a. WorkerWorks worker old.core old.kept a new.core new.kept) told worked.does.works))
          worked.adds ends

  job_ends : (order : Event) (worker : Worker) (first last : WorldView D) (answer : Reply)
      → ((core : CoreView) (told : Reply) (old new : History) → AddsBy order core told old new → AddsByOrder told old new)
      → IsJob g order worker first answer last → Ends worker answer
  job_ends order worker first last answer orders (IsJob.refused ends step) = by_order worker answer _ _ (orders first.core answer _ _ step.adds) ends
  job_ends order worker first last answer orders (IsJob.finished begun mid goes step finished) =
      let it = last_event worker mid last finished.driven.before answer finished.driven.drives in
      event_ends worker it.0 last answer it.2 finished.ends

  -- a checkpoint ends with its acknowledgement, or a refusal
  pub checkpoint_ends : (rounds : ℕ) (first last : WorldView D) (answer : Reply) → IsJob g (Begin rounds) Dumper first answer last
      → EndsAs reply.Acked answer
  checkpoint_ends rounds first last answer job = by (job_ends (Begin rounds) Dumper first last answer (λ _ _ _ _ adds. adds) job)
    where
      by : Ends Dumper answer → EndsAs reply.Acked answer
      by (Ends.acked n whose is) = (Ok n, is)
      by (Ends.merged serial whose is) = absurd (let no : Dumper ≡ Merger = whose in cc)
      by (Ends.reopened m whose is) = absurd (let no : Dumper ≡ Opener = whose in cc)
      by (Ends.refused why is) = (Err why, is)

  -- a merge with its image's serial
  pub merge_ends : (first last : WorldView D) (answer : Reply) → IsJob g Merge Merger first answer last → EndsAs reply.Merged answer
  merge_ends first last answer job = by (job_ends Merge Merger first last answer (λ _ _ _ _ adds. adds) job)
    where
      by : Ends Merger answer → EndsAs reply.Merged answer
      by (Ends.acked n whose is) = absurd (let no : Merger ≡ Dumper = whose in cc)
      by (Ends.merged serial whose is) = (Ok serial, is)
      by (Ends.reopened m whose is) = absurd (let no : Merger ≡ Opener = whose in cc)
      by (Ends.refused why is) = (Err why, is)

  -- an opening with what it found
  pub reopening_ends : (first last : WorldView D) (answer : Reply) → IsJob g Reopen Opener first answer last → EndsAs reply.Reopened answer
  reopening_ends first last answer job = by (job_ends Reopen Opener first last answer (λ _ _ _ _ adds. adds) job)
    where
      by : Ends Opener answer → EndsAs reply.Reopened answer
      by (Ends.acked n whose is) = absurd (let no : Opener ≡ Dumper = whose in cc)
      by (Ends.merged serial whose is) = absurd (let no : Opener ≡ Merger = whose in cc)
      by (Ends.reopened m whose is) = (Ok m, is)
      by (Ends.refused why is) = (Err why, is)

  -- what a job's last reply says is what a crash leaves then
  pub job_shows : (order : Event) (worker : Worker) (first last : WorldView D) (answer : Reply) → IsJob g order worker first answer last
      → g.is_honest last.disk → Within (g.may_leave last.disk) (ShowsReply answer last.core.base (history_of last.core))
  job_shows order worker first last answer (IsJob.refused ends step) honest = step.shows honest
  job_shows order worker first last answer (IsJob.finished begun mid goes step finished) honest =
      (last_event worker mid last finished.driven.before answer finished.driven.drives).2.shows honest

-- What a job leaves of the memory, and what a checkpoint saves: the memory with which it began.
use Rattle.std.proofs.Common.{◌≡◌, ◌≢◌, ◌⊎◌, inl, inr, ℕ, Bool, true, false, if◌then◌else◌, List, [], ◌∷◌, Some, None, cond, Result, Ok, Err, IfOk, refl, sym, ◌∙◌, ap, subst, arith}
use Rattle.std.proofs.lemmas.Bool.{eq-eqb}
use Rattle.std.specs.List.{AllByRecursion}
use Rattle.sd_areas.specs.PlainMemory.{PlainMemory}
use Rattle.sd_command.specs.declared.refusal.Refusal.{Refusal}
use Rattle.sd_command.specs.declared.reply.Reply.{Reply}
use Rattle.sd_command.specs.declared.reply.Reply.TheVariants as reply
use Rattle.sd_disk.specs.Crash.{Within}
use Rattle.sd_disk.specs.declared.disk.Disk.{Ghosts}
use Rattle.sd_gate.specs.declared.worker.Worker.{Worker}
use Rattle.sd_gate.specs.declared.worker.Worker.TheVariants.{Dumper}
use Rattle.sd_image.specs.Shows.{Shows}
use Rattle.sd_journal.specs.declared.entry.Entry.TheVariants.{Freeze, Acked}
use Rattle.sd_journal.specs.History.{Base, History, at_freeze, memory_after, pending}
use Rattle.sd_journal.specs.Legal.{IsLegal}
use Rattle.sd_journal.specs.Marked.{IsTracked}
use Rattle.sd_pagetable.specs.Contents.{plain_of}
use Rattle.sd_crash_safety.specs.Calls.{AddsByOrder}
use Rattle.sd_crash_safety.specs.View.{CoreView, history_of}
use Rattle.sd_world.specs.declared.event.Event.{Event}
use Rattle.sd_world.specs.declared.event.Event.TheVariants.{Begin, Merge, Perform, Reopen, Trim, Work}
use Rattle.sd_world.specs.Adds.{AddsBy, AddsByPerform, AddsByWork}
use Rattle.sd_world.specs.Jobs.{Drives, IsJob, is_end, last_reply, next_event}
use Rattle.sd_world.specs.Runs.{IsStep, ShowsReply}
use Rattle.sd_world.specs.View.{WorldView, is_asked}
use Rattle.sd_world.proofs.DriveLemmas.{call_next, step_next}
use Rattle.sd_world.proofs.JobLemmas.{last_event}
use Rattle.sd_world.proofs.ReplyLemmas.{marked_legal}

-- an event of a job: its order, a step of its worker, a device call
pub data IsOfJob : Event → Type 0 where
  begin : (rounds : ℕ) → IsOfJob (Begin rounds)
  merge : IsOfJob Merge
  reopen : IsOfJob Reopen
  work : (worker : Worker) → IsOfJob (Work worker)
  perform : (worker : Worker) → IsOfJob (Perform worker)

no_trim : (event : Event) → IsOfJob event → event ≢ Trim
no_trim event (begin rounds) is = let no : Begin rounds ≡ Trim = is in cc
no_trim event merge is = let no : Merge ≡ Trim = is in cc
no_trim event reopen is = let no : Reopen ≡ Trim = is in cc
no_trim event (work worker) is = let no : Work worker ≡ Trim = is in cc
no_trim event (perform worker) is = let no : Perform worker ≡ Trim = is in cc

of_next : (b : Bool) (worker : Worker) → IsOfJob (if b then Perform worker else Work worker)
of_next true worker = perform worker
of_next false worker = work worker

-- ---- the entries of a job make nothing of the memory

by_order : (base : Base) (answer : Reply) (old new : History) → AddsByOrder answer old new → new ≡ old
by_order base answer old new adds = grind arith

by_call : (answer : Reply) (old new : History) → AddsByPerform answer old new → new ≡ old
by_call answer old new adds = grind arith

by_work : (base : Base) (worker : Worker) (core : CoreView) (answer : Reply) (old new : History) → AddsByWork worker core answer old new
    → memory_after base new ≡ memory_after base old
by_work base worker core answer old new adds = grind arith

by_event : (base : Base) (event : Event) (core : CoreView) (answer : Reply) (old new : History) → IsOfJob event → AddsBy event core answer old new
    → memory_after base new ≡ memory_after base old
by_event base event core answer old new (begin rounds) adds = ap (memory_after base) (by_order base answer old new adds)
by_event base event core answer old new merge adds = ap (memory_after base) (by_order base answer old new adds)
by_event base event core answer old new reopen adds = ap (memory_after base) (by_order base answer old new adds)
by_event base event core answer old new (work worker) adds = by_work base worker core answer old new adds
by_event base event core answer old new (perform worker) adds = ap (memory_after base) (by_call answer old new adds)

module _ {D : Type 0} (g : Ghosts D) where
  step_keeps : (event : Event) (old new : WorldView D) (answer : Reply) → IsOfJob event → IsTracked old.core.base old.core.items old.core.memory
      → IsStep g event old answer new → plain_of new.core.memory ≡ plain_of old.core.memory
  step_keeps event old new answer job tracked step = grind arith

  drives_keep : (worker : Worker) (first last : WorldView D) (answers : List Reply) → IsTracked first.core.base first.core.items first.core.memory
      → Drives g worker first answers last → plain_of last.core.memory ≡ plain_of first.core.memory
  drives_keep worker first last [] tracked drives = ap (λ (w : WorldView D). plain_of w.core.memory) drives
  drives_keep worker first last (answer ∷ answers) tracked drives =
      drives_keep worker drives.0 last answers drives.1.tracked drives.2
      ∙ step_keeps (next_event first.kept worker) first drives.0 answer (of_next (is_asked first.kept worker) worker) tracked drives.1

  -- a job leaves the memory as it is
  pub job_keeps : (order : Event) (worker : Worker) (first last : WorldView D) (answer : Reply) → IsOfJob order
      → IsTracked first.core.base first.core.items first.core.memory → IsJob g order worker first answer last
      → plain_of last.core.memory ≡ plain_of first.core.memory
  job_keeps order worker first last answer job tracked (IsJob.refused ends step) = step_keeps order first last answer job tracked step
  job_keeps order worker first last answer job tracked (IsJob.finished begun mid goes step finished) =
      drives_keep worker mid last _ step.tracked finished.driven.drives ∙ step_keeps order first mid begun job tracked step

-- ---- the freeze of a checkpoint

-- since a journal without a pending checkpoint nothing was added, or a freeze
abbrev Frozen : History → History → Type 0
Frozen start now = (now ≡ start) ⊎ ((n : ℕ) × (now ≡ Freeze n ∷ start))

frozen_once : (base : Base) (start old new : History) → IsLegal base new → Frozen start old
    → (new ≡ old) ⊎ ((n : ℕ) × (new ≡ Freeze n ∷ old)) → Frozen start new
frozen_once base start old new legal before (inl same) = subst (Frozen start) (sym same) before
frozen_once base start old new legal (inl none) (inr froze) = inr (froze.0, froze.1 ∙ ap (λ (h : History). Freeze froze.0 ∷ h) none)
frozen_once base start old new legal (inr once) (inr froze) =
    let twice : new ≡ Freeze froze.0 ∷ Freeze once.0 ∷ start = froze.1 ∙ ap (λ (h : History). Freeze froze.0 ∷ h) once.1 in
    let is = subst (IsLegal base) twice legal in
    absurd (let no : Some once.0 ≡ None = is.0.0 in cc)

by_worked : (worker : Worker) (core : CoreView) (answer : Reply) (old new : History) → is_end answer ≡ false → AddsByWork worker core answer old new
    → (new ≡ old) ⊎ ((n : ℕ) × (new ≡ Freeze n ∷ old))
by_worked worker core answer old new goes adds = grind arith

-- the memory at the freeze of a number, where the freeze is the newest entry but for its acknowledgement
freeze_of : (base : Base) (start : History) (m n : ℕ) → m ≡ n → at_freeze base (Acked n ∷ Freeze m ∷ start) n ≡ Some (memory_after base start)
freeze_of base start m n same = ap (λ b. cond b (Some (memory_after base start)) (at_freeze base start n)) (eq-eqb m n same)

module _ {D : Type 0} (g : Ghosts D) where
  event_freezes : (worker : Worker) (old new : WorldView D) (answer : Reply) → is_end answer ≡ false → IsStep g (next_event old.kept worker) old answer new
      → (history_of new.core ≡ history_of old.core) ⊎ ((n : ℕ) × (history_of new.core ≡ Freeze n ∷ history_of old.core))
  event_freezes worker old new answer goes step = by (is_asked old.kept worker) refl
    where
      by : (b : Bool) → is_asked old.kept worker ≡ b
          → (history_of new.core ≡ history_of old.core) ⊎ ((n : ℕ) × (history_of new.core ≡ Freeze n ∷ history_of old.core))
      by true is =
          let called = subst (λ event. IsStep g event old answer new) (call_next g worker old is) step in
          inl (by_call answer _ _ called.adds)
      by false is =
          let worked = subst (λ event. IsStep g event old answer new) (step_next g worker old is) step in
          by_worked worker old.core answer _ _ goes worked.adds

  event_acks : (worker : Worker) (old new : WorldView D) (n : ℕ) → IsStep g (next_event old.kept worker) old (reply.Acked n) new
      → history_of new.core ≡ Acked n ∷ history_of old.core
  event_acks worker old new n step = by (is_asked old.kept worker) refl
    where
      by : (b : Bool) → is_asked old.kept worker ≡ b → history_of new.core ≡ Acked n ∷ history_of old.core
      by true is =
          let called = subst (λ event. IsStep g event old (reply.Acked n) new) (call_next g worker old is) step in
          absurd called.adds
      by false is =
          let worked = subst (λ event. IsStep g event old (reply.Acked n) new) (step_next g worker old is) step in
          worked.adds.1

  -- the base of the run stays, and the journal has one freeze more at most
  record HasFrozen (start : History) (first last : WorldView D) : Type 0 where
    base : last.core.base ≡ first.core.base
    frozen : Frozen start (history_of last.core)

  drives_freeze : (worker : Worker) (start : History) (first last : WorldView D) (before : List Reply) → pending start ≡ None
      → AllByRecursion (λ reply. is_end reply ≡ false) before → Frozen start (history_of first.core) → Drives g worker first before last
      → HasFrozen start first last
  drives_freeze worker start first last [] none goes frozen drives = record {
    base = ap (λ (w : WorldView D). w.core.base) drives;
    frozen = subst (λ (w : WorldView D). Frozen start (history_of w.core)) (sym drives) frozen;
  }
  drives_freeze worker start first last (answer ∷ answers) none goes frozen drives =
      let step = drives.1 in
      let legal = marked_legal drives.0.core.base drives.0.core.items step.tracked.marked in
      let now = frozen_once drives.0.core.base start (history_of first.core) (history_of drives.0.core) legal frozen
      (event_freezes worker first drives.0 answer goes.0 step) in
      let rest = drives_freeze worker start drives.0 last answers none goes.1 now drives.2 in
      record {
        base = rest.base ∙ step.base (no_trim (next_event first.kept worker) (of_next (is_asked first.kept worker) worker));
        frozen = rest.frozen;
      }

  -- what a checkpoint that is acknowledged shows: the memory with which it began, where none was pending then
  pub checkpoint_saves : (rounds n : ℕ) (first last : WorldView D) (contents : List (List ℕ))
      → IsTracked first.core.base first.core.items first.core.memory → pending (history_of first.core) ≡ None
      → IsJob g (Begin rounds) Dumper first (reply.Acked n) last → ShowsReply (reply.Acked n) last.core.base (history_of last.core) contents
      → Shows contents (Some (n, plain_of first.core.memory))
  checkpoint_saves rounds n first last contents tracked none (IsJob.refused ends step) shows = absurd step.adds
  checkpoint_saves rounds n first last contents tracked none (IsJob.finished begun mid goes step finished) shows =
      let driven = finished.driven in
      let ended = last_event g Dumper mid last driven.before (reply.Acked n) driven.drives in
      let end = ended.0 in
      let start = history_of mid.core in
      let empty : pending start ≡ None = ap pending (by_order mid.core.base begun (history_of first.core) start step.adds) ∙ none in
      let before = drives_freeze Dumper start mid end driven.before empty driven.goes_on (inl refl) ended.1 in
      let acked = event_acks Dumper end last n ended.2 in
      let legal = subst (IsLegal last.core.base) acked (marked_legal last.core.base last.core.items ended.2.tracked.marked) in
      let waits : pending (history_of end.core) ≡ Some n = legal.0 in
      let based : last.core.base ≡ mid.core.base =
      ended.2.base (no_trim (next_event end.kept Dumper) (of_next (is_asked end.kept Dumper) Dumper)) ∙ before.base in
      let kept = step_keeps g (Begin rounds) first mid begun (begin rounds) tracked step in
      elim before.frozen [
        | inl same ↦ absurd (let no : None ≡ Some n = sym empty ∙ sym (ap pending same) ∙ waits in cc)
        | inr froze ↦
            let is : Some froze.0 ≡ Some n = sym (ap pending froze.1) ∙ waits in
            let number : froze.0 ≡ n = cc in
            let entries : history_of last.core ≡ Acked n ∷ Freeze froze.0 ∷ start = acked ∙ ap (λ (h : History). Acked n ∷ h) froze.1 in
            let there : at_freeze last.core.base (history_of last.core) n ≡ Some (memory_after last.core.base start) =
            ap (λ (h : History). at_freeze last.core.base h n) entries ∙ freeze_of last.core.base start froze.0 n number in
            let made : Some shows.memory ≡ Some (memory_after last.core.base start) = sym shows.freeze ∙ there in
            let memory : shows.memory ≡ memory_after last.core.base start = cc in
            let is_first : shows.memory ≡ plain_of first.core.memory =
            memory ∙ ap (λ (base : Base). memory_after base start) based ∙ sym step.tracked.memory ∙ kept in
            subst (λ (m : PlainMemory). Shows contents (Some (n, m))) is_first shows.shows
      ]

  -- the same of what the job returns
  pub saves_by : (rounds : ℕ) (first last : WorldView D) (answer : Reply) (returned : Result ℕ Refusal) → answer ≡ last_reply reply.Acked returned
      → IsTracked first.core.base first.core.items first.core.memory → IsJob g (Begin rounds) Dumper first answer last
      → (g.is_honest last.disk → Within (g.may_leave last.disk) (ShowsReply answer last.core.base (history_of last.core)))
      → IfOk returned (λ n. g.is_honest last.disk → pending (history_of first.core) ≡ None
      → Within (g.may_leave last.disk) (λ contents. Shows contents (Some (n, plain_of first.core.memory))))
  saves_by rounds first last answer (Ok n) is tracked job shows = λ honest none contents left.
      checkpoint_saves rounds n first last contents tracked none (subst (λ a. IsJob g (Begin rounds) Dumper first a last) is job)
      (subst (λ a. ShowsReply a last.core.base (history_of last.core) contents) is (shows honest contents left))
  saves_by rounds first last answer (Err why) is tracked job shows = tt

-- Which checkpoint runs after an event: the one that was begun last, or the one that ran before; and how its number
-- rises.
use Rattle.std.proofs.Common.{◌≡◌, ◌≢◌, ◌⊎◌, ℕ, ◌≤◌, ◌+◌, Bool, true, false, ◌||◌, is_none, Option, Some, None, refl, sym, ◌∙◌, ap, subst, inl, inr, arith}
use Rattle.std.proofs.Math.Nat.{le-max_left}
use Rattle.std.proofs.lemmas.Bool.{cases_eq}
use Rattle.sd_command.specs.declared.refusal.Refusal.{Refusal}
use Rattle.sd_command.specs.declared.refusal.Refusal.TheVariants as refusal
use Rattle.sd_command.specs.declared.reply.Reply.{Reply}
use Rattle.sd_command.specs.declared.reply.Reply.TheVariants as reply
use Rattle.sd_gate.specs.declared.worker.Worker.{Worker}
use Rattle.sd_gate.specs.declared.worker.Worker.TheVariants.{Dumper, Merger}
use Rattle.sd_gate.specs.Calls.{is_done}
use Rattle.sd_gate.specs.Requests.{Made}
use Rattle.sd_disk.specs.declared.disk.Disk.{Ghosts}
use Rattle.sd_rounds.specs.Dumper.{Dumping, Running}
use Rattle.sd_crash_safety.specs.Calls.{IsOut, running_number}
use Rattle.sd_crash_safety.specs.View.{CoreView, Numbers}
use Rattle.sd_core.specs.declared.taken.Taken.{Taken}
use Rattle.sd_core.specs.declared.taken.Taken.TheVariants.{Step, Call}
use Rattle.sd_core.specs.Beginning.{Begins, BeginsAs, begin_refusal}
use Rattle.sd_core.specs.Beside.{LeavesOthers}
use Rattle.sd_core.specs.Called.{IsBegun, IsHandedIn, IsMergeOrder, IsReopenOrder, IsTakenUp}
use Rattle.sd_core.specs.Flags.{FindsNumbers, FlagsByBegin, FlagsByCancel, FlagsByOutcome, FlagsByReply, FlagsByStep, HasFlags, begins_image, commits, numbers_asked}
use Rattle.sd_core.specs.Images.{job_of}
use Rattle.sd_core.specs.Merging.{MergesAs, merge_refusal}
use Rattle.sd_core.specs.Orders.{IsCancelled}
use Rattle.sd_core.specs.Refusals.{cancel_refusal, reopen_refusal, work_refusal}
use Rattle.sd_core.specs.Working.{HasFallen, LeavesByOutcome, LeavesByStep, LeavesByWork}
use Rattle.sd_world.specs.declared.event.Event.{Event}
use Rattle.sd_world.specs.declared.event.Event.TheVariants.{Command as CommandEvent, Begin, Work, TakeUp, HandInAt, Merge, Cancel, Reopen, Trim}
use Rattle.sd_world.specs.Promise.{begun_after}
use Rattle.sd_world.specs.Steps.{Does, HandsInAt, HandsInIfAny, WorkerTakesUp, WorkerWorks}
use Rattle.sd_world.specs.Trims.{TrimsJournal}
use Rattle.sd_world.specs.View.{WorldView}
use Rattle.sd_world.proofs.TrimLemmas.{trim_cases}

-- a checkpoint that runs then ran before
abbrev pub KeepsNumber : CoreView → CoreView → Type 0
KeepsNumber old new = (n : ℕ) → running_number new.dumper.running ≡ Some n → running_number old.dumper.running ≡ Some n

-- a checkpoint that runs after an event is the one that was begun last
abbrev pub NumberGoes : Event → Reply → CoreView → CoreView → Type 0
NumberGoes event answer old new = (n : ℕ) → running_number new.dumper.running ≡ Some n
    → begun_after event answer (running_number old.dumper.running) ≡ Some n

number_of_job : (running : Option Running) → running_number (job_of running) ≡ running_number running
number_of_job running = grind arith

same_job : (old new : CoreView) → job_of new.dumper.running ≡ job_of old.dumper.running → KeepsNumber old new
same_job old new job n is = sym (number_of_job old.dumper.running) ∙ ap running_number (sym job) ∙ number_of_job new.dumper.running ∙ is

same_dumper : (old new : CoreView) → new.dumper ≡ old.dumper → KeepsNumber old new
same_dumper old new same n is = ap (λ (d : Dumping). running_number d.running) (sym same) ∙ is

same_core : (old new : CoreView) → new ≡ old → KeepsNumber old new
same_core old new same = same_dumper old new (ap (λ (c : CoreView). c.dumper) same)

none_runs : (running : Option Running) (fact : Type 0) (n : ℕ) → is_none running ≡ true → running_number running ≡ Some n → fact
none_runs None fact n idle is = cc
none_runs (Some running) fact n idle is = cc

none_begins : (old new : CoreView) → is_none new.dumper.running ≡ true → KeepsNumber old new
none_begins old new idle n is = none_runs new.dumper.running (running_number old.dumper.running ≡ Some n) n idle is

by_dumper_step : (old new : CoreView) (answer : Reply) → LeavesByStep old Dumper answer new → KeepsNumber old new
by_dumper_step old new answer leaves = grind arith

by_dumper_outcome : (old new : CoreView) (answer : Reply) → LeavesByOutcome old Dumper answer new → KeepsNumber old new
by_dumper_outcome old new reply.Worked leaves = same_job old new leaves.job
by_dumper_outcome old new (reply.Acked n) leaves = none_begins old new leaves.idle
by_dumper_outcome old new (reply.Merged serial) leaves = absurd (let no : Dumper ≡ Merger = leaves.0 in cc)
by_dumper_outcome old new (reply.Refused refusal.StoreDown) leaves = none_begins old new (leaves.idle Dumper)
by_dumper_outcome old new _ leaves = absurd leaves

-- ---- a step of a worker, and an outcome

step_number : (old new : CoreView) (worker : Worker) (taken : Taken) → LeavesByWork old worker taken new → LeavesOthers worker old new → KeepsNumber old new
step_number old new worker taken leaves others = grind arith

taken_number : (old new : CoreView) (worker : Worker) (taken : Taken) → IsTakenUp worker old taken new → KeepsNumber old new
taken_number old new worker taken up = by (work_refusal old worker) refl
  where
    by : (o : Option Refusal) → work_refusal old worker ≡ o → KeepsNumber old new
    by None is = step_number old new worker taken (up.leaves is) up.beside.others
    by (Some why) is = same_core old new (up.refused why is).1

done_number : (old new : CoreView) (worker : Worker) (answer : Reply) → LeavesByOutcome old worker answer new → LeavesOthers worker old new
    → KeepsNumber old new
done_number old new worker answer leaves others = grind (arith, by_dumper_outcome, same_dumper)

out_number : (old new : CoreView) (made : Made) (answer : Reply) → IsHandedIn made answer old new → IsOut old made.request.id → KeepsNumber old new
out_number old new made answer handed out = by (is_done made.answer) refl
  where
    worker : Worker
    worker = made.request.id.worker

    by : (b : Bool) → is_done made.answer ≡ b → KeepsNumber old new
    by true is = done_number old new worker answer (handed.leaves out) ((handed.beside out).others is)
    by false is = let fallen : HasFallen old worker new =
        subst (λ a. LeavesByOutcome old worker a new) (handed.failed out is) (handed.leaves out) in none_begins old new (fallen.idle Dumper)

-- a request is out, or it isn't: which, need not be known
number_or : (o : Option ℕ) (n : ℕ) → (o ≡ Some n) ⊎ (o ≢ Some n)
number_or None n = inr (λ is. absurd (let no : (let none : Option ℕ = None in none ≡ Some n) = is in cc))
number_or (Some m) n = elim (cases_eq m n) [
  | inl same ↦ inl (ap Some same)
  | inr other ↦ inr (λ is. other (own m is))
]
  where
    own : (m : ℕ) → Some m ≡ Some n → m ≡ n
    own m is = cc

handed_number : (old new : CoreView) (made : Made) (answer : Reply) → IsHandedIn made answer old new → KeepsNumber old new
handed_number old new made answer handed n is = elim (number_or (running_number old.dumper.running) n) [
  | inl same ↦ same
  | inr other ↦ same_core old new (handed.strange (λ out. other (out_number old new made answer handed out n is))).1 n is
]

-- ---- the order to begin

begins_as : (old : CoreView) (rounds : ℕ) (answer : Reply) (new : CoreView) → BeginsAs old rounds answer new → NumberGoes (Begin rounds) answer old new
begins_as old rounds (reply.Begun n) new begins = λ m is. sym (ap running_number begins.running) ∙ is
begins_as old rounds (reply.Refused refusal.OutOfMemory) new begins = same_core old new begins
begins_as old rounds (reply.Refused refusal.NoSlot) new begins = same_core old new begins.1
begins_as old rounds _ new begins = absurd begins

begin_number : (old : CoreView) (rounds : ℕ) (answer : Reply) (new : CoreView)
    → ((why : Refusal) → begin_refusal old rounds ≡ Some why → (answer ≡ reply.Refused why) × (new ≡ old))
    → (begin_refusal old rounds ≡ None → BeginsAs old rounds answer new) → NumberGoes (Begin rounds) answer old new
begin_number old rounds answer new refused begins = by (begin_refusal old rounds) refl
  where
    by : (o : Option Refusal) → begin_refusal old rounds ≡ o → NumberGoes (Begin rounds) answer old new
    by None is = begins_as old rounds answer new (begins is)
    by (Some why) is = let r = refused why is in subst (λ a. NumberGoes (Begin rounds) a old new) (sym r.0) (same_core old new r.1)

-- ---- the order to merge

merges_as : (old : CoreView) (answer : Reply) (new : CoreView) → MergesAs old answer new → KeepsNumber old new
merges_as old answer new merges = grind arith

merge_number : (old : CoreView) (answer : Reply) (new : CoreView)
    → ((why : Refusal) → merge_refusal old ≡ Some why → (answer ≡ reply.Refused why) × (new ≡ old))
    → (merge_refusal old ≡ None → MergesAs old answer new) → KeepsNumber old new
merge_number old answer new refused merges = by (merge_refusal old) refl
  where
    by : (o : Option Refusal) → merge_refusal old ≡ o → KeepsNumber old new
    by None is = merges_as old answer new (merges is)
    by (Some why) is = same_core old new (refused why is).1

-- ---- the order to cancel

cancel_number : (old : CoreView) (answer : Reply) (new : CoreView)
    → ((why : Refusal) → cancel_refusal old ≡ Some why → (answer ≡ reply.Refused why) × (new ≡ old))
    → (cancel_refusal old ≡ None → IsCancelled old answer new) → NumberGoes Cancel answer old new
cancel_number old answer new refused cancelled = by (cancel_refusal old) refl
  where
    by : (o : Option Refusal) → cancel_refusal old ≡ o → NumberGoes Cancel answer old new
    by None due n runs = none_runs new.dumper.running (begun_after Cancel answer (running_number old.dumper.running) ≡ Some n) n
        (ap is_none (cancelled due).idle) runs
    by (Some why) due n runs = subst (λ a. begun_after Cancel a (running_number old.dumper.running) ≡ Some n) (sym (refused why due).0)
        (same_core old new (refused why due).1 n runs)

-- ---- the order to trim

trim_number : (old : CoreView) (answer : Reply) (new : CoreView) → TrimsJournal old answer new → KeepsNumber old new
trim_number old answer new trims = elim (trim_cases old answer new trims) [
  | inl gone ↦ same_dumper old new (ap (λ (c : CoreView). c.dumper) gone.is)
  | inr all ↦ same_core old new all.is
]

-- ---- all events

module _ {D : Type 0} (g : Ghosts D) where
  takes_number : (worker : Worker) (old new : WorldView D) (answer : Reply) → WorkerTakesUp worker old.core old.kept answer new.core new.kept
      → KeepsNumber old.core new.core
  takes_number worker old new answer given = grind arith

  works_number : (worker : Worker) (old new : WorldView D) (answer : Reply) → WorkerWorks worker old.core old.kept answer new.core new.kept
      → KeepsNumber old.core new.core
  works_number worker old new answer given = grind (arith, handed_number)

  hands_number : (worker : Worker) (place : ℕ) (old new : WorldView D) (answer : Reply)
      → HandsInIfAny worker place old.core old.kept answer new.core new.kept → KeepsNumber old.core new.core
  hands_number worker place old new answer given = grind (arith, handed_number, same_core)

  pub number_goes : (event : Event) (old : WorldView D) (answer : Reply) (new : WorldView D) → Does g event old answer new
      → NumberGoes event answer old.core new.core
  number_goes (CommandEvent seat command) old answer new does = same_dumper old.core new.core does.applied.job
  number_goes (Begin rounds) old answer new does = begin_number old.core rounds answer new.core does.1.refused does.1.begins
  number_goes (Work worker) old answer new does = works_number worker old new answer does.works
  number_goes (TakeUp worker) old answer new does = takes_number worker old new answer does.takes
  number_goes (HandInAt worker place) old answer new does = hands_number worker place old new answer does.hands
  number_goes Merge old answer new does = merge_number old.core answer new.core does.1.refused does.1.merges
  number_goes Cancel old answer new does = cancel_number old.core answer new.core does.1.refused does.1.cancelled
  number_goes Reopen old answer new does = same_dumper old.core new.core does.1.beside.others.0
  number_goes Trim old answer new does = trim_number old.core answer new.core does.trims
  number_goes _ old answer new does = same_core old.core new.core does.core

-- ---- the greatest numbers that were begun and used

-- no number was begun that wasn't used
abbrev pub IsCounted : CoreView → Type 0
IsCounted core = core.numbers.begun ≤ core.numbers.checkpoint

-- the greatest that was begun never falls
abbrev pub CountGoes : CoreView → CoreView → Type 0
CountGoes old new = IsCounted old → (old.numbers.begun ≤ new.numbers.begun) × IsCounted new

same_numbers : (old new : CoreView) → new.numbers.begun ≡ old.numbers.begun → new.numbers.checkpoint ≡ old.numbers.checkpoint → CountGoes old new
same_numbers old new begun checkpoint counted = (omega (arith, begun), omega (arith, begun, checkpoint, counted))

kept_numbers : (old new : CoreView) (grows committing : Bool) → HasFlags grows committing old.numbers new → CountGoes old new
kept_numbers old new grows committing flags = same_numbers old new (ap (λ (k : Numbers). k.begun) flags.numbers_are) (ap (λ (k : Numbers). k.checkpoint) flags.numbers_are)

same_count : (old new : CoreView) → new ≡ old → CountGoes old new
same_count old new same =
    same_numbers old new (ap (λ (c : CoreView). c.numbers.begun) same) (ap (λ (c : CoreView). c.numbers.checkpoint) same)

-- a checkpoint that begins has the next number
pub record HasNextNumber (n : ℕ) (old new : CoreView) : Type 0 where
  pub next : n ≡ old.numbers.checkpoint + 1
  pub begun : new.numbers.begun ≡ n
  pub checkpoint : new.numbers.checkpoint ≡ n

next_number : (old new : CoreView) (rounds n : ℕ) → Begins old rounds n new → FlagsByBegin old (reply.Begun n) new → HasNextNumber n old new
next_number old new rounds n begins flags = record {
  next = begins.number;
  begun = ap (λ (k : Numbers). k.begun) flags.numbers_are;
  checkpoint = ap (λ (k : Numbers). k.checkpoint) flags.numbers_are;
}

next_counts : (old new : CoreView) (n : ℕ) → HasNextNumber n old new → CountGoes old new
next_counts old new n next counted =
    let number = next.next in
    let begun = next.begun in
    let checkpoint = next.checkpoint in
    (omega (arith, number, begun, counted), omega (arith, begun, checkpoint))

begins_count : (old : CoreView) (rounds : ℕ) (answer : Reply) (new : CoreView) → BeginsAs old rounds answer new → FlagsByBegin old answer new → CountGoes old new
begins_count old rounds (reply.Begun n) new begins flags = next_counts old new n (next_number old new rounds n begins flags)
begins_count old rounds (reply.Refused refusal.OutOfMemory) new begins flags = same_count old new begins
begins_count old rounds (reply.Refused refusal.NoSlot) new begins flags = same_count old new begins.1
begins_count old rounds _ new begins flags = absurd begins

begin_count : (old : CoreView) (rounds : ℕ) (answer : Reply) (new : CoreView) → IsBegun rounds answer old new → CountGoes old new
begin_count old rounds answer new is = by (begin_refusal old rounds) refl
  where
    by : (o : Option Refusal) → begin_refusal old rounds ≡ o → CountGoes old new
    by None due = begins_count old rounds answer new (is.begins due) is.flags
    by (Some why) due = same_count old new (is.refused why due).1

pub begun_number : (old : CoreView) (rounds n : ℕ) (new : CoreView) → IsBegun rounds (reply.Begun n) old new → HasNextNumber n old new
begun_number old rounds n new is = by (begin_refusal old rounds) refl
  where
    not_refused : (why : Refusal) → reply.Begun n ≡ reply.Refused why → HasNextNumber n old new
    not_refused why e = absurd (let no : reply.Begun n ≡ reply.Refused why = e in cc)

    by : (o : Option Refusal) → begin_refusal old rounds ≡ o → HasNextNumber n old new
    by None due = next_number old new rounds n (is.begins due) is.flags
    by (Some why) due = not_refused why (is.refused why due).0

-- an order to begin is answered so, or refused
pub begun_or : (old : CoreView) (rounds : ℕ) (answer : Reply) (new : CoreView) → IsBegun rounds answer old new
    → ((n : ℕ) × (answer ≡ reply.Begun n) × HasNextNumber n old new) ⊎ ((why : Refusal) × (answer ≡ reply.Refused why))
begun_or old rounds answer new is = by (begin_refusal old rounds) refl
  where
    begins : (told : Reply) → answer ≡ told → BeginsAs old rounds told new → FlagsByBegin old told new
        → ((n : ℕ) × (answer ≡ reply.Begun n) × HasNextNumber n old new) ⊎ ((why : Refusal) × (answer ≡ reply.Refused why))
    begins (reply.Begun n) same does flags = inl (n, same, next_number old new rounds n does flags)
    begins (reply.Refused why) same does flags = inr (why, same)
    begins _ same does flags = absurd does

    by : (o : Option Refusal) → begin_refusal old rounds ≡ o
        → ((n : ℕ) × (answer ≡ reply.Begun n) × HasNextNumber n old new) ⊎ ((why : Refusal) × (answer ≡ reply.Refused why))
    by None due = begins answer refl (is.begins due) is.flags
    by (Some why) due = inr (why, (is.refused why due).0)

not_begun : (n : ℕ) (why : Refusal) → reply.Begun n ≡ reply.Refused why → ⊥
not_begun n why e = absurd (let no : reply.Begun n ≡ reply.Refused why = e in cc)

-- no other order is
pub merge_begins_none : (old : CoreView) (n : ℕ) (new : CoreView) → IsMergeOrder (reply.Begun n) old new → ⊥
merge_begins_none old n new is = by (merge_refusal old) refl
  where
    by : (o : Option Refusal) → merge_refusal old ≡ o → ⊥
    by None due = is.merges due
    by (Some why) due = not_begun n why (is.refused why due).0

pub reopen_begins_none : (old : CoreView) (n : ℕ) (new : CoreView) → IsReopenOrder (reply.Begun n) old new → ⊥
reopen_begins_none old n new is = by (reopen_refusal old) refl
  where
    by : (o : Option Refusal) → reopen_refusal old ≡ o → ⊥
    by None due = is.begun due
    by (Some why) due = not_begun n why (is.refused why due).0

cancel_count : (old : CoreView) (answer : Reply) (new : CoreView) → FlagsByCancel old answer new → CountGoes old new
cancel_count old (reply.Cancelled n) new flags = kept_numbers old new false false flags
cancel_count old _ new flags = kept_numbers old new old.grows old.committing flags

outcome_count : (old : CoreView) (answer : Reply) (new : CoreView) → FlagsByOutcome old answer new → CountGoes old new
outcome_count old (reply.Acked n) new flags = kept_numbers old new true false flags
outcome_count old _ new flags = kept_numbers old new old.grows old.committing flags

found_count : (old new : CoreView) → FindsNumbers old.numbers new.catalog new.numbers → CountGoes old new
found_count old new finds counted =
    let above = le-max_left old.numbers.begun finds.checkpoint.greatest in
    let begun = finds.begun in
    let is = finds.checkpoint.is in
    (omega (arith, begun), omega (arith, above, begun, is))

reply_count : (old : CoreView) (answer : Reply) (new : CoreView) → FlagsByReply old answer new → CountGoes old new
reply_count old (reply.Reopened m) new flags = found_count old new flags.finds
reply_count old _ new flags = kept_numbers old new old.grows old.committing flags

asked_count : (old new : CoreView) (grows committing first : Bool) → HasFlags grows committing (numbers_asked first old.numbers) new → CountGoes old new
asked_count old new grows committing false flags =
    same_numbers old new (ap (λ (k : Numbers). k.begun) flags.numbers_are) (ap (λ (k : Numbers). k.checkpoint) flags.numbers_are)
asked_count old new grows committing true flags =
    same_numbers old new (ap (λ (k : Numbers). k.begun) flags.numbers_are) (ap (λ (k : Numbers). k.checkpoint) flags.numbers_are)

step_count : (old : CoreView) (worker : Worker) (taken : Taken) (new : CoreView) → FlagsByStep old worker taken new → CountGoes old new
step_count old worker (Step answer) new flags = reply_count old answer new flags
step_count old worker (Call request) new flags =
    asked_count old new old.grows (old.committing || commits new worker request.id.call) (begins_image old worker) flags.flags

trim_count : (old : CoreView) (answer : Reply) (new : CoreView) → TrimsJournal old answer new → CountGoes old new
trim_count old answer new trims = elim (trim_cases old answer new trims) [
  | inl gone ↦ same_numbers old new (ap (λ (c : CoreView). c.numbers.begun) gone.is) (ap (λ (c : CoreView). c.numbers.checkpoint) gone.is)
  | inr all ↦ same_count old new all.is
]

module _ {D : Type 0} (g : Ghosts D) where
  takes_count : (worker : Worker) (old new : WorldView D) (answer : Reply) → WorkerTakesUp worker old.core old.kept answer new.core new.kept
      → CountGoes old.core new.core
  takes_count worker old new answer (WorkerTakesUp.step taken left) = step_count old.core worker (Step answer) new.core taken.flags
  takes_count worker old new answer (WorkerTakesUp.call request taken keeps worked) = step_count old.core worker (Call request) new.core taken.flags

  hands_count : (worker : Worker) (place : ℕ) (old new : WorldView D) (answer : Reply)
      → HandsInAt worker place old.core old.kept answer new.core new.kept → CountGoes old.core new.core
  hands_count worker place old new answer hands = outcome_count old.core answer new.core hands.hands.does.flags

  works_count : (worker : Worker) (old new : WorldView D) (answer : Reply) → WorkerWorks worker old.core old.kept answer new.core new.kept
      → CountGoes old.core new.core
  works_count worker old new answer (WorkerWorks.hands_in hands) = hands_count worker 0 old new answer hands
  works_count worker old new answer (WorkerWorks.takes_up nowhere taken) = takes_count worker old new answer taken

  any_count : (worker : Worker) (place : ℕ) (old new : WorldView D) (answer : Reply)
      → HandsInIfAny worker place old.core old.kept answer new.core new.kept → CountGoes old.core new.core
  any_count worker place old new answer (HandsInIfAny.hands_in hands) = hands_count worker place old new answer hands
  any_count worker place old new answer (HandsInIfAny.none nowhere unasked) = same_count old.core new.core unasked.core

  pub count_goes : (event : Event) (old : WorldView D) (answer : Reply) (new : WorldView D) → Does g event old answer new → CountGoes old.core new.core
  count_goes (CommandEvent seat command) old answer new does = kept_numbers old.core new.core old.core.grows old.core.committing does.applied.flags
  count_goes (Begin rounds) old answer new does = begin_count old.core rounds answer new.core does.1
  count_goes (Work worker) old answer new does = works_count worker old new answer does.works
  count_goes (TakeUp worker) old answer new does = takes_count worker old new answer does.takes
  count_goes (HandInAt worker place) old answer new does = any_count worker place old new answer does.hands
  count_goes Merge old answer new does = kept_numbers old.core new.core old.core.grows old.core.committing does.1.flags
  count_goes Cancel old answer new does = cancel_count old.core answer new.core does.1.flags
  count_goes Reopen old answer new does = kept_numbers old.core new.core old.core.grows old.core.committing does.1.flags
  count_goes Trim old answer new does = trim_count old.core answer new.core does.trims
  count_goes _ old answer new does = same_count old.core new.core does.core

-- ---- the number that was begun last

-- it is as it was, or the event began it
pub begun_is : (event : Event) (answer : Reply) (before : Option ℕ) (n : ℕ) → begun_after event answer before ≡ Some n
    → (before ≡ Some n) ⊎ ((rounds : ℕ) × (event ≡ Begin rounds) × (answer ≡ reply.Begun n))
begun_is event answer before n is = grind arith

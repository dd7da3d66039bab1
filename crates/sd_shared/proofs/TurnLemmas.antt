-- What is known of a turn outside of the lock.
use Rattle.std.proofs.Common.{◌≡◌, ◌⊎◌, inl, inr, ℕ, List, ◌∙◌, sym, ap, subst, ◌&&◌, not, is_some, Option, Result, Ok, Err}
use Rattle.sd_command.specs.declared.command.Command.{Command}
use Rattle.sd_command.specs.declared.refusal.Refusal.{Refusal}
use Rattle.sd_command.specs.declared.refusal.Refusal.TheVariants as refusal
use Rattle.sd_command.specs.declared.reply.Reply.{Reply}
use Rattle.sd_command.specs.declared.reply.Reply.TheVariants as reply
use Rattle.sd_gate.specs.declared.request_id.RequestId.{RequestId}
use Rattle.sd_gate.specs.declared.worker.Worker.{Worker}
use Rattle.sd_gate.specs.declared.worker.Worker.TheVariants.{Dumper}
use Rattle.sd_journal.specs.History.{History, pending}
use Rattle.sd_journal.specs.declared.receipt.Receipt.{Receipt}
use Rattle.sd_crash_safety.specs.declared.standing.Standing.{Standing}
use Rattle.sd_crash_safety.specs.Calls.{Applies}
use Rattle.sd_crash_safety.specs.View.{CoreView, history_of}
use Rattle.sd_core.specs.declared.taken.Taken.{Taken}
use Rattle.sd_core.specs.Beginning.{is_down}
use Rattle.sd_core.specs.Called.{IsApplied}
use Rattle.sd_settling.specs.Told.{told}
use Rattle.sd_shared.specs.declared.jobs.Jobs.{Jobs}
use Rattle.sd_shared.specs.Turns.{AreRefused, IsAnsweredCall, IsAnsweredBy, MakesJob, Orders, RelaysJob, Resumes, ResumesJob, WasHandedIn, WasRefused, WorkerIsAnswered}
use Rattle.sd_shared.specs.Turns.{counted, holds_commands, job_number, last_of}

pub called_of : {D : Type 0} (contents : D → List (List ℕ)) (id own : RequestId) (answer : Reply) → own ≡ id → WasHandedIn own answer → IsAnsweredCall contents id answer
called_of contents id own answer same hands = inr (subst (λ (one : RequestId). WasHandedIn one answer) same hands)

-- why an answer refuses
abbrev why_of : Reply → Refusal
why_of (reply.Refused why) = why
why_of _ = refusal.Device

-- what a writer was answered that refuses is such a refusal
pub refused_of : {D : Type 0} (contents : D → List (List ℕ)) (id : RequestId) (answer : Reply) → IsAnsweredCall contents id answer
    → (why : Refusal) → answer ≡ reply.Refused why → WasRefused why
refused_of contents id answer (inl other) why is = ∣ inl (ap why_of (sym is ∙ other.0)) ∣₁
refused_of contents id answer (inr hands) why is = ∣ inr (id, subst (λ (one : Reply). WasHandedIn id one) is hands) ∣₁

-- of a checkpoint with writers, which was ordered
pub relays_job : {D : Type 0} (contents : D → List (List ℕ)) (rounds own : ℕ) (last told answer : Reply) (refused : Option Refusal) → own ≡ rounds → told ≡ last
    → MakesJob contents Dumper own last → AreRefused refused → answer ≡ last_of told refused → RelaysJob contents rounds answer
relays_job contents rounds own last told answer refused same is makes are behind =
    inr (
      last,
      subst (λ (n : ℕ). MakesJob contents Dumper n last) same makes,
      (refused, are, behind ∙ ap (λ (one : Reply). last_of one refused) is),
    )

-- what is so of an answer is so of its receipt
pub told_applied : (seat : ℕ) (command : Command) (answered : Result (ℕ × Reply) Refusal) (result : Result Receipt Refusal) (old new : CoreView) → told result ≡ answered
    → IsApplied seat command answered old new → IsApplied seat command (told result) old new
told_applied seat command answered result old new same is = subst (λ (one : Result (ℕ × Reply) Refusal). IsApplied seat command one old new) (sym same) is

-- a command neither freezes nor thaws
holds_of : (answered : Result (ℕ × Reply) Refusal) (seat : ℕ) (command : Command) (old new : CoreView) → Applies seat command answered old new → new.standing ≡ old.standing
    → holds_commands new ≡ holds_commands old
holds_of (Ok answer) seat command old new applies stands =
    ap (λ (history : History). is_some (pending history) && not (is_down new.standing)) applies.1
    ∙ ap (λ (standing : Standing). is_some (pending (history_of old)) && not (is_down standing)) stands
holds_of (Err why) seat command old new applies stands = ap holds_commands applies.1

pub applied_holds : (seat : ℕ) (command : Command) (answered : Result (ℕ × Reply) Refusal) (old new : CoreView) → IsApplied seat command answered old new
    → holds_commands new ≡ holds_commands old
applied_holds seat command answered old new is = holds_of answered seat command old new is.applies is.stands

-- the number of a job that was begun
pub number_of : (old new : Jobs) (worker : Worker) (number : ℕ) → new ≡ counted worker old → number ≡ job_number new worker → number ≡ job_number (counted worker old) worker
number_of old new worker number one is = is ∙ ap (λ (jobs : Jobs). job_number jobs worker) one

-- of a job that stood, and was answered at its first step
pub resumes_job : {D : Type 0} (contents : D → List (List ℕ)) (worker : Worker) (number : ℕ) (first : Taken) (was last answer : Reply)
    → Resumes worker number first → IsAnsweredBy contents first was → answer ≡ last → (last ≡ was) ⊎ WorkerIsAnswered contents worker number last
    → ResumesJob contents worker answer
resumes_job contents worker number first was last answer resumed told behind (inl last_is) =
    (number, first, resumed, inl (subst (IsAnsweredBy contents first) (sym (behind ∙ last_is)) told))
resumes_job contents worker number first was last answer resumed told behind (inr later) =
    (number, first, resumed, inr (subst (WorkerIsAnswered contents worker number) (sym behind) later))

-- of a job that was ordered
pub job_of_told : {D : Type 0} (contents : D → List (List ℕ)) (worker : Worker) (rounds number : ℕ) (first was last answer : Reply)
    → Orders worker rounds first number → was ≡ first → answer ≡ last → (last ≡ was) ⊎ WorkerIsAnswered contents worker number last
    → MakesJob contents worker rounds answer
job_of_told contents worker rounds number first was last answer ordered before behind (inl last_is) =
    (first, number, ordered, inl (behind ∙ (last_is ∙ before)))
job_of_told contents worker rounds number first was last answer ordered before behind (inr told) =
    (first, number, ordered, inr (subst (WorkerIsAnswered contents worker number) (sym behind) told))

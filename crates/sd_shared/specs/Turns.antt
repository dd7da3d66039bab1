-- What one turn does: one hold of the lock on the core.
use Rattle.std.specs.Prelude.{◌≡◌, ◌≢◌, ◌⊎◌, ℕ, ◌+◌, ◌≤◌, ◌%◌, ◌^◌, Bool, false, not, List, ◌&&◌, length, is_none}
use Rattle.std.specs.Prelude.{◌<◌, is_some, if◌then◌else◌, Option, Some, None, Result, Err, ⊤}
use Rattle.sd_command.specs.declared.command.Command.{Command}
use Rattle.sd_command.specs.declared.refusal.Refusal.{Refusal}
use Rattle.sd_command.specs.declared.refusal.Refusal.TheVariants as refusal
use Rattle.sd_command.specs.declared.reply.Reply.{Reply}
use Rattle.sd_command.specs.declared.reply.Reply.TheVariants as reply
use Rattle.sd_gate.specs.declared.worker.Worker.{Worker}
use Rattle.sd_gate.specs.declared.worker.Worker.TheVariants.{Dumper, Merger, Opener}
use Rattle.sd_gate.specs.declared.request_id.RequestId.{RequestId}
use Rattle.sd_gate.specs.Requests.{Asked, Made}
use Rattle.sd_journal.specs.History.{last, pending}
use Rattle.sd_journal.specs.declared.receipt.Receipt.{Receipt}
use Rattle.sd_crash_safety.specs.Calls.{StaysBelieved}
use Rattle.sd_crash_safety.specs.View.{CoreView, history_of}
use Rattle.sd_core.specs.declared.taken.Taken.{Taken}
use Rattle.sd_core.specs.declared.taken.Taken.TheVariants as taken
use Rattle.sd_core.specs.Beginning.{is_down}
use Rattle.sd_core.specs.Called.{IsApplied, IsBegun, IsCancelOrder, IsHandedIn, IsMergeOrder, IsReopenOrder, IsTakenUp}
use Rattle.sd_core.specs.Flags.{KeepsFlags}
use Rattle.sd_core.specs.Refusals.{IsPageOut}
use Rattle.sd_core.specs.Trims.{Trims, unfolded}
use Rattle.sd_receipts.specs.declared.folded.Folded.{Folded}
use Rattle.sd_settling.specs.Told.{told}
use Rattle.sd_shared.specs.Told.{ends_job, is_refused}
use Rattle.sd_shared.specs.declared.booked.Booked.{Booked}
use Rattle.sd_shared.specs.declared.jobs.Jobs.{Jobs}
use Rattle.sd_shared.specs.declared.next.Next.{Next}
use Rattle.sd_shared.specs.declared.seat.Seat.{Seat}
use Rattle.sd_shared.specs.declared.next.Next.TheVariants as next
use Rattle.sd_shared.specs.declared.thaw.Thaw.{Thaw}
use Rattle.sd_shared.specs.declared.thaw.Thaw.TheVariants as thaw

-- commands are refused as frozen until a worker goes on, or a checkpoint is cancelled
abbrev pub holds_commands : CoreView → Bool
holds_commands core = is_some (pending (history_of core)) && not (is_down core.standing)

-- and whoever waits for the thaw goes on waiting
abbrev pub holds_waits : Booked → Bool
holds_waits booked = holds_commands booked.core && not booked.ended

-- the waits end with this turn
abbrev pub ends_waits : Booked → Booked → Bool
ends_waits old new = holds_waits old && not (holds_waits new)

-- how a wait for the thaw ends, of a core that holds no waits
abbrev pub thaw_of : CoreView → Thaw
thaw_of core = if is_none (pending (history_of core)) then thaw.Thawed
    else (if is_down core.standing then thaw.Down else thaw.Ended)

-- ---- orders

-- a worker's job was ordered, and this was answered
abbrev pub IsOrder : Worker → ℕ → Reply → CoreView → CoreView → Type 0
IsOrder Dumper rounds answer old new = IsBegun rounds answer old new
IsOrder Merger rounds answer old new = IsMergeOrder answer old new
IsOrder Opener rounds answer old new = IsReopenOrder answer old new

-- ---- steps

-- what a step is, of which it is known whether its call may be made beside others
abbrev pub taken_of : Next → Taken
taken_of (next.Step answer) = taken.Step answer
taken_of (next.PageWrite owed) = taken.Call owed.request
taken_of (next.Call owed) = taken.Call owed.request

-- those are the writes of data pages
abbrev pub IsSorted : Next → CoreView → Type 0
IsSorted (next.Step answer) core = ⊤
IsSorted (next.PageWrite owed) core = IsPageOut core.outs owed.request.id
IsSorted (next.Call owed) core = IsPageOut core.outs owed.request.id → ⊥

-- the journal was trimmed
pub record IsTrimmed (result : Result Folded Refusal) (old new : CoreView) : Type 0 where
  pub idle : unfolded (last old.base (history_of old)) old.base.number ≡ None
      → (result ≡ Err refusal.Idle) × (new ≡ old)
  pub trims : (n : ℕ) → unfolded (last old.base (history_of old)) old.base.number ≡ Some n → Trims n old result new
  pub flags : KeepsFlags old new
  pub goes_on : (asked : List (Option Asked)) → StaysBelieved old asked new asked

-- ---- the jobs of the workers

-- how many drivers the jobs of a worker had, modulo 2^64: the number of the one that drives
abbrev pub job_number : Jobs → Worker → ℕ
job_number jobs Dumper = jobs.dumper
job_number jobs Merger = jobs.merger
job_number jobs Opener = jobs.opener

-- one more drives
abbrev pub counted : Worker → Jobs → Jobs
counted Dumper jobs = record { dumper = (jobs.dumper + 1) % 2 ^ 64; merger = jobs.merger; opener = jobs.opener }
counted Merger jobs = record { dumper = jobs.dumper; merger = (jobs.merger + 1) % 2 ^ 64; opener = jobs.opener }
counted Opener jobs = record { dumper = jobs.dumper; merger = jobs.merger; opener = (jobs.opener + 1) % 2 ^ 64 }

-- who goes on with a job drives it, unless the step is refused
abbrev pub jobs_after : Worker → Taken → Jobs → Jobs
jobs_after worker made jobs = if is_refused made then jobs else counted worker jobs

-- waits that were ended are held again from the beginning of a checkpoint on
abbrev pub ended_after : Worker → Reply → Bool → Bool
ended_after Dumper answer ended = ends_job answer && ended
ended_after worker answer ended = ended

-- ---- what is known outside of the lock: there was a turn that did this, of some core

-- a wait for the thaw ended so
abbrev pub AwaitsThaw : Thaw → Type 0
AwaitsThaw ended = (booked : Booked) × (holds_waits booked ≡ false) × (ended ≡ thaw_of booked.core)

-- a command of a seat was made, or was refused without an entry
abbrev pub SeatMakes : ℕ → Command → Result Receipt Refusal → Type 0
SeatMakes seat command result = (old : CoreView) × (new : CoreView) × IsApplied seat command (told result) old new

-- a command of a seat was made, or was refused without an entry, where whoever waits for the thaw goes on
abbrev pub MakesThawed : ℕ → Command → Result Receipt Refusal → Type 0
MakesThawed seat command result =
    (old : Booked) × (new : CoreView) × (holds_waits old ≡ false) × IsApplied seat command (told result) old.core new

-- a worker's job was ordered; where it was begun it has this number
abbrev pub Orders : Worker → ℕ → Reply → ℕ → Type 0
Orders worker rounds answer number =
    (old : CoreView) × (new : CoreView) × (jobs : Jobs)
    × IsOrder worker rounds answer old new
    × (ends_job answer ≡ false → number ≡ job_number (counted worker jobs) worker)

abbrev pub Cancels : Reply → Type 0
Cancels answer = (old : CoreView) × (new : CoreView) × IsCancelOrder answer old new

abbrev pub TrimsOnce : Result Folded Refusal → Type 0
TrimsOnce result = (old : CoreView) × (new : CoreView) × IsTrimmed result old new

-- a step was taken up for the driver with this number; or there was another one since
abbrev pub TakesStep : Worker → ℕ → Taken → Type 0
TakesStep worker number made =
    (old : Booked) × (new : Booked)
    × (((number ≢ job_number old.jobs worker) × (made ≡ taken.Step (reply.Refused refusal.Idle)))
    ⊎ ((number ≡ job_number old.jobs worker) × IsTakenUp worker old.core made new.core))

-- a step was taken up of the job that was begun last, whose driver has this number: a new one, unless the step was
-- refused
abbrev pub Resumes : Worker → ℕ → Taken → Type 0
Resumes worker number made =
    (old : Booked) × (new : Booked)
    × (number ≡ job_number (jobs_after worker made old.jobs) worker)
    × IsTakenUp worker old.core made new.core

-- the outcome of a request was handed in
abbrev pub WasHandedIn : RequestId → Reply → Type 0
WasHandedIn id answer =
    (made : Made) × (made.request.id ≡ id) × (old : CoreView) × (new : CoreView) × IsHandedIn made answer old new

-- a disk hasn't the slot
abbrev pub LacksSlot : {D : Type 0} → (D → List (List ℕ)) → ℕ → Type 0
LacksSlot {D} contents slot = (disk : D) × (length (contents disk) ≤ slot)

-- Or its slot isn't one of the disk's, which is answered as a failed device.
abbrev pub IsAnsweredCall : {D : Type 0} → (D → List (List ℕ)) → RequestId → Reply → Type 0
IsAnsweredCall contents id answer =
    ((answer ≡ reply.Refused refusal.Device) × LacksSlot contents id.slot) ⊎ WasHandedIn id answer

-- what a step that was taken up says: its answer, or that of the call that it asks for
abbrev pub IsAnsweredBy : {D : Type 0} → (D → List (List ℕ)) → Taken → Reply → Type 0
IsAnsweredBy contents (taken.Step own) answer = answer ≡ own
IsAnsweredBy contents (taken.Call request) answer = IsAnsweredCall contents request.id answer

-- a worker was answered so by a step of the job with this number, or of a call that one asked for
abbrev pub WorkerIsAnswered : {D : Type 0} → (D → List (List ℕ)) → Worker → ℕ → Reply → Type 0
WorkerIsAnswered contents worker number answer =
    (made : Taken) × TakesStep worker number made × IsAnsweredBy contents made answer

-- A job was ordered, of so many rounds. This is what was answered then, or to a later step of that job, or of its
-- calls.
abbrev pub MakesJob : {D : Type 0} → (D → List (List ℕ)) → Worker → ℕ → Reply → Type 0
MakesJob contents worker rounds answer =
    (first : Reply) × (number : ℕ) × Orders worker rounds first number
    × ((answer ≡ first) ⊎ WorkerIsAnswered contents worker number answer)

-- A step of the job that stood was taken up, and this is what it said, or what a later step of that job did, or one of
-- its calls.
abbrev pub ResumesJob : {D : Type 0} → (D → List (List ℕ)) → Worker → Reply → Type 0
ResumesJob contents worker answer =
    (number : ℕ) × (first : Taken) × Resumes worker number first
    × (IsAnsweredBy contents first answer ⊎ WorkerIsAnswered contents worker number answer)

-- an outcome was refused so that a writer handed in
abbrev pub WasRefused : Refusal → Type 0
WasRefused why = ∥ (why ≡ refusal.Device) ⊎ ((id : RequestId) × WasHandedIn id (reply.Refused why)) ∥₁

-- the last reply of a checkpoint with writers: where it was refused, the refusal of a writer's outcome comes first
abbrev pub last_of : Reply → Option Refusal → Reply
last_of (reply.Refused own) (Some why) = reply.Refused why
last_of last refused = last

abbrev pub AreRefused : Option Refusal → Type 0
AreRefused refused = (why : Refusal) → refused ≡ Some why → WasRefused why

-- it is that of a job, and of what was refused to its writers
abbrev pub IsLastOf : Reply → Reply → Type 0
IsLastOf last answer = (refused : Option Refusal) × AreRefused refused × (answer ≡ last_of last refused)

-- none, or over eight
abbrev pub AreOutside : ℕ → Type 0
AreOutside writers = (writers ≡ 0) ⊎ (8 < writers)

-- A checkpoint of so many rounds was ordered, with writers, and this was its last reply; or it wasn't, for lack of
-- memory.
abbrev pub RelaysJob : {D : Type 0} → (D → List (List ℕ)) → ℕ → Reply → Type 0
RelaysJob contents rounds answer =
    (answer ≡ reply.Refused refusal.OutOfMemory)
    ⊎ ((last : Reply) × MakesJob contents Dumper rounds last × IsLastOf last answer)

-- one more turn of a seat
abbrev pub turned : Seat → Seat
turned seat = record { number = seat.number; turns = (seat.turns + 1) % 2 ^ 64 }

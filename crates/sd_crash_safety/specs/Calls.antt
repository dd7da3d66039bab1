-- What the calls of a core do, as a world sees it.
use Rattle.std.specs.Prelude.{◌≡◌, ◌≢◌, ◌⊎◌, ℕ, ◌<◌, true, List, ◌∷◌, length, map, drop, Option, Some, None, Result, Ok}
use Rattle.std.specs.Prelude.{Err, slice_get, slice_set}
use Rattle.sd_disk.specs.Contents.{file_at}
use Rattle.sd_command.specs.declared.command.Command.{Command}
use Rattle.sd_command.specs.declared.refusal.Refusal.{Refusal}
use Rattle.sd_command.specs.declared.refusal.Refusal.TheVariants.{JournalFull, OutOfMemory}
use Rattle.sd_command.specs.declared.reply.Reply.{Reply}
use Rattle.sd_command.specs.declared.reply.Reply.TheVariants as reply
use Rattle.sd_gate.specs.declared.call.Call.TheVariants.{Write}
use Rattle.sd_gate.specs.declared.phase.Phase.{Phase}
use Rattle.sd_gate.specs.declared.request_id.RequestId.{RequestId}
use Rattle.sd_gate.specs.declared.worker.Worker.{Worker}
use Rattle.sd_gate.specs.declared.worker.Worker.TheVariants.{Dumper, Opener}
use Rattle.sd_gate.specs.Calls.{IsLook, is_done}
use Rattle.sd_gate.specs.Fits.{DiskLeaves, PhaseReads}
use Rattle.sd_gate.specs.Laws.{found_phase}
use Rattle.sd_gate.specs.Looks.{IsLookedUpAs}
use Rattle.sd_gate.specs.Phases.{Waits, after, body_after, bodies_after, given_up, phases_after}
use Rattle.sd_gate.specs.Requests.{Asked, Made}
use Rattle.sd_gate.specs.Sequences.{data_place}
use Rattle.sd_journal.specs.declared.entry.Entry.TheVariants.{Applied, Freeze, Acked, Cancelled, Reopened}
use Rattle.sd_journal.specs.History.{History}
use Rattle.sd_rounds.specs.Dumper.{Running}
use Rattle.sd_crash_safety.specs.Believes.{Believes}
use Rattle.sd_crash_safety.specs.LiveImages.{IsPageOf}
use Rattle.sd_crash_safety.specs.Knows.{IsRefound}
use Rattle.sd_crash_safety.specs.View.{CoreView, history_of}

-- the core believes as much as before, with these requests out
abbrev pub StaysBelieved : CoreView → List (Option Asked) → CoreView → List (Option Asked) → Type 0
StaysBelieved old asked new now =
    (bodies files : List (List ℕ)) → Believes old asked bodies files → Believes new now bodies files

-- no request is out on a slot
abbrev pub IsFree : List (Option RequestId) → ℕ → Type 0
IsFree outs slot = (worker : ℕ) (id : RequestId) → slice_get outs worker ≡ Some (Some id) → id.slot ≢ slot

-- it writes a data page
pub record WritesDataPage (id : RequestId) : Type 0 where
  pub place : ℕ
  pub call : id.call ≡ Write (data_place place)

-- both write data pages, and not the same one
pub record AreOtherPages (id other : RequestId) : Type 0 where
  pub one : WritesDataPage id
  pub another : WritesDataPage other
  pub apart : id.call ≢ other.call

-- each request that is out on the slot of this one writes a data page, as it does, and another one
abbrev pub IsApart : List (Option RequestId) → RequestId → Type 0
IsApart outs id = (lane : ℕ) (other : RequestId) → slice_get outs lane ≡ Some (Some other) → other.slot ≡ id.slot
    → AreOtherPages id other

-- each slot's phase is as it was, or, where no request is out on it, that of a slot whose job was given up
pub record AreGivenUp (outs : List (Option RequestId)) (phases new : List Phase) : Type 0 where
  pub count : length new ≡ length phases
  pub each : (slot : ℕ) (phase : Phase) → slice_get new slot ≡ Some phase
      → (was : Phase) × (slice_get phases slot ≡ Some was)
      × ((phase ≡ was) ⊎ ((phase ≡ given_up was) × IsFree outs slot))

-- ---- a call that hands no request out and takes no outcome

-- what is out stays out, and jobs may be given up
pub record Stays (old new : CoreView) : Type 0 where
  pub base : new.base ≡ old.base
  pub outs : new.outs ≡ old.outs
  pub phases : AreGivenUp new.outs old.phases new.phases
  pub goes_on : (asked : List (Option Asked)) → StaysBelieved old asked new asked

-- no request is out
abbrev pub NoneOut : List (Option Asked) → Type 0
NoneOut asked = (worker : ℕ) (request : Asked) → slice_get asked worker ≡ Some (Some request) → ⊥

-- The store was read: each slot was synced, nothing is out, and what is believed starts anew from the files.
pub record StartsAnew (old new : CoreView) : Type 0 where
  pub base : new.base ≡ old.base
  pub outs : new.outs ≡ old.outs
  pub none : (worker : ℕ) (id : RequestId) → slice_get old.outs worker ≡ Some (Some id) → ⊥
  pub count : length new.phases ≡ length old.phases
  pub refound : (asked : List (Option Asked)) (bodies files : List (List ℕ)) → NoneOut asked
      → Believes old asked bodies files
      → (slot : ℕ) (phase : Phase) → slice_get old.phases slot ≡ Some phase → IsRefound phase
  pub phases : (asked : List (Option Asked)) (bodies files : List (List ℕ)) → NoneOut asked
      → Believes old asked bodies files
      → DiskLeaves old.phases bodies files → new.phases ≡ map found_phase files
  pub believes : (asked : List (Option Asked)) (bodies files : List (List ℕ)) → NoneOut asked
      → Believes old asked bodies files
      → DiskLeaves old.phases bodies files → Believes new asked (map (drop 1) files) files

-- ---- what replies add to the journal

-- the number of the running checkpoint
abbrev pub running_number : Option Running → Option ℕ
running_number None = None
running_number (Some running) = Some running.number

-- the dumper's step may freeze the memory for the running checkpoint
pub record MayFreeze (worker : Worker) (core : CoreView) (n : ℕ) : Type 0 where
  pub dumper : worker ≡ Dumper
  pub number : running_number core.dumper.running ≡ Some n

-- nothing, or the freeze
abbrev pub AddsByWorked : Worker → CoreView → History → History → Type 0
AddsByWorked worker core old new = (new ≡ old) ⊎ ((n : ℕ) × MayFreeze worker core n × (new ≡ Freeze n ∷ old))

-- by a worker's step that makes no request
abbrev pub AddsByStep : Worker → CoreView → Reply → History → History → Type 0
AddsByStep worker core reply.Worked old new = AddsByWorked worker core old new
AddsByStep worker core (reply.Reopened m) old new = (worker ≡ Opener) × (new ≡ Reopened m ∷ old)
AddsByStep worker core (reply.Refused why) old new = new ≡ old
AddsByStep worker core _ old new = ⊥

-- by an outcome that is handed in
abbrev pub AddsByOutcome : Worker → Reply → History → History → Type 0
AddsByOutcome worker reply.Worked old new = new ≡ old
AddsByOutcome worker (reply.Acked n) old new = (worker ≡ Dumper) × (new ≡ Acked n ∷ old)
AddsByOutcome worker (reply.Merged serial) old new = new ≡ old
AddsByOutcome worker (reply.Refused why) old new = new ≡ old
AddsByOutcome worker _ old new = ⊥

-- by the order to cancel
abbrev pub AddsByCancel : Reply → History → History → Type 0
AddsByCancel (reply.Cancelled n) old new = new ≡ Cancelled n ∷ old
AddsByCancel (reply.Refused why) old new = new ≡ old
AddsByCancel _ old new = ⊥

-- by the order to begin, to merge or to open again
abbrev pub AddsByOrder : Reply → History → History → Type 0
AddsByOrder (reply.Begun n) old new = new ≡ old
AddsByOrder reply.Worked old new = new ≡ old
AddsByOrder (reply.Refused why) old new = new ≡ old
AddsByOrder _ old new = ⊥

-- ---- commands

-- a reply that stands in the journal: neither a full journal nor lack of memory
abbrev pub IsJournaled : Reply → Type 0
IsJournaled (reply.Refused JournalFull) = ⊥
IsJournaled (reply.Refused OutOfMemory) = ⊥
IsJournaled _ = Unit {0}

-- the two refusals that leave no entry
abbrev pub IsUnjournaled : Refusal → Type 0
IsUnjournaled why = (why ≡ JournalFull) ⊎ (why ≡ OutOfMemory)

-- A command is answered and journaled at the next number; or the journal is full or memory is wanting, and nothing
-- changes.
abbrev pub Applies : ℕ → Command → Result (ℕ × Reply) Refusal → CoreView → CoreView → Type 0
Applies seat command (Ok told) old new =
    IsJournaled told.1 × (history_of new ≡ Applied seat command told.1 ∷ history_of old)
Applies seat command (Err why) old new = IsUnjournaled why × (new ≡ old)

-- ---- requests and outcomes

-- A request of a worker is handed out in a free lane. What is out on its slot writes other data pages, and each of
-- them, and this request, is in a lane of pages then, where whole data pages are written.
pub record HandsOut (old : CoreView) (worker : Worker) (request : Asked) (new : CoreView) : Type 0 where
  pub lane : ℕ
  pub free : slice_get old.outs lane ≡ Some None
  pub base : new.base ≡ old.base
  pub history : history_of new ≡ history_of old
  pub phases : new.phases ≡ old.phases
  pub outs : new.outs ≡ slice_set old.outs lane (Some request.id)
  pub whose : request.id.worker ≡ worker
  pub slot : request.id.slot < length old.phases
  pub apart : IsApart old.outs request.id
  pub pages : 2 < lane → IsPageOf request.id.slot request
  pub beside : (other_lane : ℕ) (other : RequestId) → slice_get old.outs other_lane ≡ Some (Some other)
      → other.slot ≡ request.id.slot
      → (2 < lane) × (2 < other_lane)
  pub goes_on : (asked : List (Option Asked)) → StaysBelieved old asked new (slice_set asked lane (Some request))

-- a step that makes no request
pub record MakesStep (old : CoreView) (worker : Worker) (answer : Reply) (new : CoreView) : Type 0 where
  pub keeps : Stays old new ⊎ StartsAnew old new
  pub adds : AddsByStep worker old answer (history_of old) (history_of new)

-- an outcome says of its slot's file: after a call that only looks, what is read of the slot now; and where the call
-- was done, what it read
pub record WasLookedAt (phases : List Phase) (bodies files : List (List ℕ)) (made : Made) : Type 0 where
  pub reads : IsLook made.request.id.call → (phase : Phase) → Waits phases made.request.id phase
      → PhaseReads (after phase made.request.id.call (is_done made.answer))
      (body_after (file_at bodies made.request.id.slot) made.request.id.call made.request.bytes)
      (file_at files made.request.id.slot)
  pub told : is_done made.answer ≡ true → IsLookedUpAs (file_at files made.request.id.slot) made

-- The outcome of the request that is out in a lane is handed in.
pub record HandedIn (old : CoreView) (lane : ℕ) (made : Made) (answer : Reply) (new : CoreView) : Type 0 where
  pub base : new.base ≡ old.base
  pub outs : new.outs ≡ slice_set old.outs lane None
  pub count : length new.phases ≡ length old.phases
  pub phases : (phase : Phase) → Waits old.phases made.request.id phase
      → AreGivenUp new.outs (phases_after old.phases made.request.id phase (is_done made.answer)) new.phases
  pub goes_on : (asked : List (Option Asked)) (bodies files : List (List ℕ))
      → slice_get asked lane ≡ Some (Some made.request)
      → WasLookedAt old.phases bodies files made → Believes old asked bodies files
      → Believes new (slice_set asked lane None)
      (bodies_after bodies made.request.id made.request.bytes) files
  pub adds : AddsByOutcome made.request.id.worker answer (history_of old) (history_of new)

-- the request with this id is out
pub record IsOut (core : CoreView) (id : RequestId) : Type 0 where
  pub lane : ℕ
  pub is : slice_get core.outs lane ≡ Some (Some id)

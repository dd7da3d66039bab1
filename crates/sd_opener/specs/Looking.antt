-- An opener, as it is seen.
use Rattle.std.specs.Prelude.{◌≡◌, ◌≢◌, ◌⊎◌, ℕ, ◌+◌, ◌<◌, ◌≤◌, true, List, [], ◌∷◌, length, map, Option, None, Some}
use Rattle.std.specs.Prelude.{IsSome}
use Rattle.sd_gate.specs.declared.call.Call.{Call as DeviceCall}
use Rattle.sd_gate.specs.declared.call.Call.TheVariants.{Len, Read as ReadCall, Sync}
use Rattle.sd_gate.specs.declared.phase.Phase.{Phase}
use Rattle.sd_gate.specs.declared.request_id.RequestId.{RequestId}
use Rattle.sd_gate.specs.declared.worker.Worker.TheVariants.{Opener}
use Rattle.sd_gate.specs.Calls.{IsAnswerTo, is_done}
use Rattle.sd_gate.specs.Inspections.{Awaits, nothing, the_header, the_length}
use Rattle.sd_gate.specs.Plans.{Back, Gives, Planned, begun}
use Rattle.sd_gate.specs.Requests.{Asked, Made}
use Rattle.sd_gate.specs.Sequences.{Calls, first_looks}
use Rattle.sd_restore.specs.declared.scanned.Scanned.{Scanned}
use Rattle.sd_opener.specs.declared.opener_step.OpenerStep.{OpenerStep}
use Rattle.sd_opener.specs.declared.opener_step.OpenerStep.TheVariants.{Call, Decoded, Damaged, AllRead}
use Rattle.sd_opener.specs.declared.stage.Stage.{Stage}
use Rattle.sd_opener.specs.declared.stage.Stage.TheVariants.{Asking, Read, Broken}

-- the state of the opener
pub record Looking : Type 0 where
  pub slots : ℕ
  -- the phases of the first slots; the next is the one that it looks at
  pub told : List Phase
  pub stage : Stage
  -- the images of these slots
  pub scanned : Scanned

-- the request that is out
abbrev pub out_of_look : Stage → Option RequestId
out_of_look (Asking plan) = plan.out
out_of_look (Read header table) = None
out_of_look (Broken reason) = None

-- ---- how far an inspection has come

-- the calls that it has still to make, the one that is out first
abbrev pub calls_ahead : Option RequestId → Calls → List DeviceCall
calls_ahead None calls = map (λ call. call.0) calls
calls_ahead (Some id) calls = id.call ∷ map (λ call. call.0) calls

-- a header's bytes came back
pub record HasFirst (first : Option (List ℕ)) : Type 0 where
  pub bytes : List ℕ
  pub came : first ≡ Some bytes
  pub whole : length bytes ≡ 4096

-- by what it waits for: the slot is synced and the file's length asked for; the header of a file that has one is read;
-- the table is read, after its header
abbrev pub HasCome : Awaits → List DeviceCall → Back → Type 0
HasCome the_length ahead found = (ahead ≡ Sync ∷ Len ∷ [] ⊎ ahead ≡ Len ∷ []) × (found.first ≡ None)
HasCome (the_header len) ahead found =
    (ahead ≡ ReadCall 0 ∷ []) × (4096 ≤ len) × (found.len ≡ Some len) × (found.first ≡ None)
HasCome nothing ahead found = ((place : ℕ) × (ahead ≡ ReadCall place ∷ [])) × IsSome found.len × HasFirst found.first

abbrev pub IsInspecting : Planned → Type 0
IsInspecting plan = HasCome plan.awaits (calls_ahead plan.out plan.calls) plan.found

-- the stage is of this slot: what is asked is asked of it, and something is left to ask for
abbrev pub IsStageOf : ℕ → Stage → Type 0
IsStageOf slot (Asking plan) = (plan.slot ≡ slot) × IsInspecting plan
IsStageOf slot (Read header table) = Unit {0}
IsStageOf slot (Broken reason) = Unit {0}

-- Nothing is asked after the last slot, and there is room for each phase.
pub record IsLooking (count : ℕ) (found : List Phase) (capacity : ℕ) (at : Stage) (images : Scanned) : Type 0 where
  pub within : length found ≤ count
  pub last : length found ≡ count → (request : RequestId) → out_of_look at ≢ Some request
  pub room : count ≤ capacity
  pub own : IsStageOf (length found) at
  pub few : images.images ≤ length found

-- ---- how its steps move it

-- it has come to the next slot, whose inspection begins
pub record IsAtNext (old new : Looking) : Type 0 where
  pub told : length new.told ≡ length old.told + 1
  pub stage : new.stage ≡ Asking (begun (length new.told) first_looks the_length)

-- the opener goes on in its slot, or looks at the next one
abbrev pub LooksFurther : Looking → Looking → Type 0
LooksFurther old new = (new.told ≡ old.told) ⊎ IsAtNext old new

-- its plan's next call is asked for, with a ticket, of the slot that it looks at
pub record OpenerAsks (number : ℕ) (old : Looking) (request : Asked) (new : Looking) : Type 0 where
  pub plan : Planned
  pub next : Planned
  pub was : old.stage ≡ Asking plan
  pub is : new.stage ≡ Asking next
  pub gives : Gives plan next request
  pub worker : request.id.worker ≡ Opener
  pub ticket : request.id.ticket ≡ number
  pub slot : request.id.slot ≡ length old.told
  pub within : length old.told < old.slots
  pub told : new.told ≡ old.told

-- an open slot was decoded
pub record IsDecoded (old new : Looking) : Type 0 where
  pub rests : out_of_look old.stage ≡ None
  pub read : (plan : Planned) → old.stage ≢ Asking plan
  pub next : IsAtNext old new

-- what a step of the opener changes
abbrev pub StepMoves : ℕ → Looking → OpenerStep → Looking → Type 0
StepMoves ticket old (Call request) new = OpenerAsks ticket old request new
StepMoves ticket old Decoded new = IsDecoded old new
StepMoves ticket old (Damaged slot reason) new = out_of_look old.stage ≡ None
StepMoves ticket old AllRead new = (new ≡ old) × (length old.told ≡ old.slots)

-- an outcome that is done, as its call asks: a length where one was asked for, and the whole of a header's bytes
pub record IsDoneAsAsked (made : Made) : Type 0 where
  pub done : is_done made.answer ≡ true
  pub answers : IsAnswerTo made.request.id.call made.answer
  pub header : made.request.id.call ≡ ReadCall 0 → length made.request.bytes ≡ 4096

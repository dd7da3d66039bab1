-- A plan as it is seen, and what its calls do to it.
use Rattle.std.specs.Prelude.{◌≡◌, ℕ, ◌+◌, ◌*◌, Bool, true, false, if◌then◌else◌, List, [], ◌∷◌, length, Option, None}
use Rattle.std.specs.Prelude.{Some}
use Rattle.std.specs.Option.{option_map}
use Rattle.sd_gate.specs.declared.answer.Answer.{Answer}
use Rattle.sd_gate.specs.declared.answer.Answer.TheVariants.{Done as DoneAnswer, Len as LenIs, Failed as FailedAnswer}
use Rattle.sd_gate.specs.declared.found.Found.{Found}
use Rattle.sd_gate.specs.declared.job.Job.{Job}
use Rattle.sd_gate.specs.declared.job.Job.TheVariants.{Sequence as SequenceJob, Inspection as InspectionJob}
use Rattle.sd_gate.specs.declared.request_id.RequestId.{RequestId}
use Rattle.sd_gate.specs.declared.settled.Settled.{Settled}
use Rattle.sd_gate.specs.declared.settled.Settled.TheVariants.{More, Finished, Failed}
use Rattle.sd_gate.specs.Calls.{is_done, buffer_back}
use Rattle.sd_gate.specs.Requests.{Asked, Made}
use Rattle.sd_gate.specs.Sequences.{Calls, calls_of_sequence, AreSound}
use Rattle.sd_gate.specs.Inspections.{KnowsLength, Awaits, nothing, calls_awaited, calls_of_stage, awaits_of, Following}
use Rattle.sd_gate.specs.Inspections.{calls_then}

abbrev pub calls_of : Job → Calls
calls_of (SequenceJob sequence) = calls_of_sequence sequence
calls_of (InspectionJob inspection) = calls_of_stage inspection.stage

abbrev pub awaited_by : Job → Awaits
awaited_by (SequenceJob sequence) = nothing
awaited_by (InspectionJob inspection) = awaits_of inspection.stage

abbrev pub IsSoundJob : Job → Type 0
IsSoundJob (SequenceJob sequence) = AreSound sequence
IsSoundJob (InspectionJob inspection) = Unit {0}

-- an inspection that reads bytes knows the length
abbrev pub KnowsItsLength : Job → Option ℕ → Type 0
KnowsItsLength (SequenceJob sequence) len = Unit {0}
KnowsItsLength (InspectionJob inspection) len = KnowsLength inspection.stage len

-- what came back to a plan: the length that it asked for, and its buffers
pub record Back : Type 0 where
  pub len : Option ℕ
  pub first : Option (List ℕ)
  pub second : Option (List ℕ)

-- what the calls of a plan have found in a slot's file
abbrev pub found_of : Found → Back
found_of found = record
    { len = found.len; first = option_map (λ b. b.items) found.first; second = option_map (λ b. b.items) found.second }

-- nothing came back yet
abbrev pub nothing_back : Back
nothing_back = record { len = None; first = None; second = None }

-- the length that was said last
abbrev pub length_looked_up : Option ℕ → Answer → Option ℕ
length_looked_up before DoneAnswer = before
length_looked_up before (LenIs len) = Some len
length_looked_up before FailedAnswer = before

-- the first buffer that came back, and the second
abbrev pub first_back : Option (List ℕ) → List ℕ → List ℕ
first_back None bytes = bytes
first_back (Some first) bytes = first

abbrev pub second_back : Option (List ℕ) → Option (List ℕ) → List ℕ → Option (List ℕ)
second_back None second bytes = second
second_back (Some first) second bytes = Some bytes

-- with one outcome more
abbrev pub found_after : Back → Answer → Option (List ℕ) → Back
found_after found answer None =
    record { len = length_looked_up found.len answer; first = found.first; second = found.second }
found_after found answer (Some bytes) =
    record {
      len = length_looked_up found.len answer;
      first = Some (first_back found.first bytes);
      second = second_back found.first found.second bytes;
    }

-- a plan as it is seen
pub record Planned : Type 0 where
  pub slot : ℕ
  -- the calls that it has still to ask for, as far as they are known
  pub calls : Calls
  -- the outcome that says which calls follow these
  pub awaits : Awaits
  -- the request that is out
  pub out : Option RequestId
  pub found : Back

-- a plan that begins with these calls
abbrev pub begun : ℕ → Calls → Awaits → Planned
begun slot calls awaits = record { slot = slot; calls = calls; awaits = awaits; out = None; found = nothing_back }

abbrev pub is_one : Option RequestId → ℕ
is_one None = 0
is_one (Some id) = 1

-- how many takes and settles a plan has at most before it
abbrev pub steps_left : Planned → ℕ
steps_left plan = 2 * (length plan.calls + calls_awaited plan.awaits) + is_one plan.out

-- the plan gives out its next call, and waits for the outcome
pub record Gives (old new : Planned) (request : Asked) : Type 0 where
  pub free : old.out ≡ None
  pub next : old.calls ≡ (request.id.call, request.bytes) ∷ new.calls
  pub slot : request.id.slot ≡ old.slot
  pub out : new.out ≡ Some request.id
  pub same_slot : new.slot ≡ old.slot
  pub same_awaits : new.awaits ≡ old.awaits
  pub same_found : new.found ≡ old.found

-- a plan goes on after its outcome, and makes no further call after one that failed
abbrev pub calls_after : Planned → Made → Following
calls_after plan made =
    if is_done made.answer
    then calls_then plan.calls plan.awaits made.answer (buffer_back made.request.id.call made.request.bytes)
    else ([], nothing)

-- a plan after the outcome of its call
abbrev pub plan_after : Planned → Made → Planned
plan_after plan made = record {
  slot = plan.slot;
  calls = (calls_after plan made).0;
  awaits = (calls_after plan made).1;
  out = None;
  found = found_after plan.found made.answer (buffer_back made.request.id.call made.request.bytes);
}

-- what an outcome of the request that is out is to a plan that has these calls left then
abbrev pub settled : Bool → Calls → Settled
settled true [] = Finished
settled true (call ∷ calls) = More
settled false calls = Failed

-- A world as callers see it.
use Rattle.std.specs.Prelude.{◌≡◌, ℕ, Bool, true, false, cond, ◌&&◌, ◌==◌, nat_lt, List, Option, Some, None, slice_get}
use Rattle.std.specs.Prelude.{replicate, refl}
use Rattle.std.specs.Coded.{Coded, code_by, coded×}
use Rattle.std.specs.List.{count_by, list_any}
use Rattle.sd_gate.specs.declared.request_id.RequestId.{RequestId}
use Rattle.sd_gate.specs.declared.worker.Worker.{Worker}
use Rattle.sd_gate.specs.Requests.{Asked}
use Rattle.sd_crash_safety.specs.View.{CoreView, Rest, core_code, index}
use Rattle.sd_world.specs.declared.call_state.CallState.{CallState}
use Rattle.sd_world.specs.declared.call_state.CallState.TheVariants as its
use Rattle.sd_world.specs.declared.kept.Kept.{Kept}
use Rattle.sd_world.specs.declared.kept.Kept.TheVariants.{Nothing, Request, Outcome}

-- the state of a world: a core, its disk, and what is kept of the calls between them
pub record WorldView (D : Type 0) : Type 0 where
  pub core : CoreView
  pub disk : D
  -- what is kept of each lane in which a request may be out
  pub kept : List Kept

-- how it is stored as a value
abbrev pub world_code : {D : Type 0} → Coded Rest → Coded D → Coded (List Kept) → Coded (WorldView D)
world_code {D} rest disk kept = code_by (CoreView × (D × List Kept)) (coded× (core_code rest) (coded× disk kept))
    (λ w. (w.core, (w.disk, w.kept))) (λ t. record { core = t.0; disk = t.1.0; kept = t.1.1 }) (λ _. refl)

-- nothing is
abbrev pub nothing_kept : List Kept
nothing_kept = replicate 11 Nothing

-- how many lanes keep something
abbrev pub is_busy : Kept → Bool
is_busy Nothing = false
is_busy (Request request) = true
is_busy (Outcome made) = true

abbrev pub busy_of : Kept → ℕ
busy_of kept = cond (is_busy kept) 1 0

abbrev pub busy_count : List Kept → ℕ
busy_count kept = count_by is_busy kept

-- ---- one lane

-- the request that is out in it, as it stands now
abbrev pub asked_of : Kept → Option Asked
asked_of Nothing = None
asked_of (Request request) = Some request
asked_of (Outcome made) = Some made.request

-- what distinguishes it from every other request
abbrev pub kept_id : Kept → Option RequestId
kept_id Nothing = None
kept_id (Request request) = Some request.id
kept_id (Outcome made) = Some made.request.id

-- where its call wasn't made yet
abbrev pub asked_id : Kept → Option RequestId
asked_id Nothing = None
asked_id (Request request) = Some request.id
asked_id (Outcome made) = None

-- where its call was made
abbrev pub made_id : Kept → Option RequestId
made_id Nothing = None
made_id (Request request) = None
made_id (Outcome made) = Some made.request.id

-- where its call is in this state
abbrev pub id_in : CallState → Kept → Option RequestId
id_in its.Asked kept = asked_id kept
id_in its.Made kept = made_id kept

-- ---- the calls of a worker

abbrev pub is_of_worker : Worker → Option RequestId → Bool
is_of_worker worker None = false
is_of_worker worker (Some id) = index id.worker == index worker

-- the worker's, with a lesser ticket than this
abbrev pub is_before : Worker → ℕ → Option RequestId → Bool
is_before worker ticket None = false
is_before worker ticket (Some id) = (index id.worker == index worker) && nat_lt id.ticket ticket

-- how many calls of a worker that are in this state have a lesser ticket than this
abbrev pub earlier : List Kept → CallState → Worker → ℕ → ℕ
earlier kept state worker ticket = count_by (λ k. is_before worker ticket (id_in state k)) kept

-- in this lane is the worker's call at this place, from 0, of those in this state by rising ticket
pub record IsAt (kept : List Kept) (state : CallState) (worker : Worker) (place lane : ℕ) : Type 0 where
  pub there : Kept
  pub is : slice_get kept lane ≡ Some there
  pub id : RequestId
  pub id_is : id_in state there ≡ Some id
  pub whose : id.worker ≡ worker
  pub after : earlier kept state worker id.ticket ≡ place

-- the worker has no call in this state at this place
abbrev pub IsNowhere : List Kept → CallState → Worker → ℕ → Type 0
IsNowhere kept state worker place = (lane : ℕ) → IsAt kept state worker place lane → ⊥

-- a device call of the worker is out that wasn't made yet
abbrev pub is_asked : List Kept → Worker → Bool
is_asked kept worker = list_any (λ k. is_of_worker worker (asked_id k)) kept

-- how many device calls of the worker are out that weren't made yet
abbrev pub asked_count : List Kept → Worker → ℕ
asked_count kept worker = count_by (λ k. is_of_worker worker (asked_id k)) kept

-- A worker's events, one after the other, and its jobs.
use Rattle.std.specs.Prelude.{◌≡◌, ◌⊎◌, ◌≤◌, ◌+◌, ℕ, Bool, true, false, if◌then◌else◌, List, [], ◌∷◌, ◌++◌, length}
use Rattle.std.specs.Prelude.{Result, Ok, Err, replicate}
use Rattle.std.specs.List.{AllByRecursion}
use Rattle.sd_command.specs.declared.refusal.Refusal.{Refusal}
use Rattle.sd_command.specs.declared.reply.Reply.{Reply}
use Rattle.sd_command.specs.declared.reply.Reply.TheVariants.{Done, Bytes, Child, NeedsFault, Segv, Begun, Worked}
use Rattle.sd_command.specs.declared.reply.Reply.TheVariants.{Acked, Cancelled, Merged, Trimmed, Reopened, Refused}
use Rattle.sd_disk.specs.declared.disk.Disk.{Ghosts}
use Rattle.sd_gate.specs.declared.worker.Worker.{Worker}
use Rattle.sd_gate.specs.declared.worker.Worker.TheVariants.{Dumper}
use Rattle.sd_core.specs.Called.{HasNoPassStep}
use Rattle.sd_world.specs.declared.call_state.CallState.TheVariants.{Made}
use Rattle.sd_world.specs.declared.event.Event.{Event}
use Rattle.sd_world.specs.declared.event.Event.TheVariants.{Work, Perform}
use Rattle.sd_world.specs.declared.kept.Kept.{Kept}
use Rattle.sd_world.specs.Promise.{Goes, Point}
use Rattle.sd_world.specs.Runs.{IsStep, Runs}
use Rattle.sd_world.specs.View.{IsAt, WorldView, is_asked}

-- a worker's next event: its device call where one is out, and else its next step
abbrev pub next_event : List Kept → Worker → Event
next_event kept worker = if is_asked kept worker then Perform worker else Work worker

-- a reply that ends a job, or refuses
abbrev pub is_end : Reply → Bool
is_end Done = false
is_end (Bytes bytes) = false
is_end (Child space) = false
is_end NeedsFault = false
is_end (Segv why) = false
is_end (Begun n) = false
is_end Worked = false
is_end (Acked n) = true
is_end (Cancelled n) = false
is_end (Merged serial) = true
is_end (Trimmed count) = false
is_end (Reopened m) = true
is_end (Refused why) = true

-- the worker's next events, one after the other, with these replies
abbrev pub Drives : {D : Type 0} → Ghosts D → Worker → WorldView D → List Reply → WorldView D → Type 0
Drives g worker first [] last = last ≡ first
Drives {D} g worker first (answer ∷ answers) last =
    (next : WorldView D) × IsStep g (next_event first.kept worker) first answer next × Drives g worker next answers last

-- a worker's next events, none of which ends its job or is refused
pub record AreMade {D : Type 0} (g : Ghosts D) (worker : Worker) (first last : WorldView D) : Type 0 where
  pub answers : List Reply
  pub drives : Drives g worker first answers last
  pub goes_on : AllByRecursion (λ reply. is_end reply ≡ false) answers

-- so many steps of the dumper, each answered `worked`
abbrev pub WorksOnly : {D : Type 0} → Ghosts D → ℕ → WorldView D → WorldView D → Type 0
WorksOnly g count first last = Runs g first (replicate count (Work Dumper)) (replicate count Worked) last

-- a device call of the worker is out that wasn't made yet, or its outcome is kept
abbrev pub HasCall : List Kept → Worker → Type 0
HasCall kept worker = (is_asked kept worker ≡ true) ⊎ ((lane : ℕ) × IsAt kept Made worker 0 lane)

-- the dumper's next event isn't a step of a pass
abbrev pub NoPassIsNext : {D : Type 0} → WorldView D → Type 0
NoPassIsNext world = HasCall world.kept Dumper ⊎ HasNoPassStep world.core

-- A worker's next events, of which only the last may end its job or be refused. The answer is that of the last.
pub record AreDriven {D : Type 0} (g : Ghosts D) (worker : Worker) (first : WorldView D) (answer : Reply)
    (last : WorldView D) : Type 0 where
  pub before : List Reply
  pub drives : Drives g worker first (before ++ answer ∷ []) last
  pub goes_on : AllByRecursion (λ reply. is_end reply ≡ false) before

-- So many next events of a worker, or fewer where one of them ends its job or is refused: that is then the last. The
-- answer is that of the last.
pub record IsDriven {D : Type 0} (g : Ghosts D) (worker : Worker) (count : ℕ) (first : WorldView D) (answer : Reply)
    (last : WorldView D) : Type 0 where
  pub before : List Reply
  pub drives : Drives g worker first (before ++ answer ∷ []) last
  pub goes_on : AllByRecursion (λ reply. is_end reply ≡ false) before
  pub stops : (is_end answer ≡ true) ⊎ (length before + 1 ≡ count)
  pub within : length before + 1 ≤ count

-- a worker's next events, up to the one that ends its job or is refused
pub record IsFinished {D : Type 0} (g : Ghosts D) (worker : Worker) (first : WorldView D) (answer : Reply)
    (last : WorldView D) : Type 0 where
  pub driven : AreDriven g worker first answer last
  pub ends : is_end answer ≡ true

-- a job that is begun and finished by its worker; a refused beginning is the answer
pub data IsJob {D : Type 0} (g : Ghosts D) (order : Event) (worker : Worker) (first : WorldView D) (answer : Reply)
    (last : WorldView D) : Type 0 where
  refused : is_end answer ≡ true → IsStep g order first answer last → IsJob g order worker first answer last
  finished : (begun : Reply) (mid : WorldView D) → is_end begun ≡ false → IsStep g order first begun mid
      → IsFinished g worker mid answer last
      → IsJob g order worker first answer last

-- the last reply of a job, by what the job returns: what it made, or why it was refused
abbrev pub last_reply : {T : Type 0} → (T → Reply) → Result T Refusal → Reply
last_reply told (Ok made) = told made
last_reply told (Err why) = Refused why

-- so a last reply ends a job that returns this
abbrev pub EndsAs : {T : Type 0} → (T → Reply) → Reply → Type 0
EndsAs {T} told answer = (returned : Result T Refusal) × (answer ≡ last_reply told returned)

-- From one point of a run to a later one by a job: these orders, and then steps and device calls of its worker. This is
-- the last reply.
pub record GoesByJob {D : Type 0} (g : Ghosts D) (orders : List Event) (worker : Worker) (first : Point D)
    (answer : Reply) (last : Point D) : Type 0 where
  pub others : List Event
  pub of_worker : AllByRecursion (λ event. (event ≡ Work worker) ⊎ (event ≡ Perform worker)) others
  pub before : List Reply
  pub goes : Goes g first (orders ++ others) (before ++ answer ∷ []) last

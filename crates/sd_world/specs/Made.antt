-- One event of a world: what it does, and what is so of every world before and after it. All else that is said of an
-- event follows from this.
use Rattle.std.specs.Prelude.{◌≡◌, ◌≢◌, ℕ, ◌<◌, true, false, None, length}
use Rattle.sd_command.specs.declared.refusal.Refusal.TheVariants.{Idle}
use Rattle.sd_command.specs.declared.reply.Reply.{Reply}
use Rattle.sd_command.specs.declared.reply.Reply.TheVariants as reply
use Rattle.sd_disk.specs.Crash.{Within}
use Rattle.sd_disk.specs.declared.disk.Disk.{Ghosts}
use Rattle.sd_gate.specs.declared.worker.Worker.{Worker}
use Rattle.sd_gate.specs.Laws.{GivenUpFits}
use Rattle.sd_journal.specs.Marked.{IsTracked}
use Rattle.sd_store_laws.specs.GateSteps.{SyncedIsFound}
use Rattle.sd_crash_safety.specs.View.{CoreView}
use Rattle.sd_core.specs.GoingOn.{AreOwnLanes, CanGoOn, HasItsJobs, OpenerAsksAlone}
use Rattle.sd_core.specs.Kept.{HasItsPreDumps}
use Rattle.sd_core.specs.Lasting.{LeavesMerged}
use Rattle.sd_core.specs.Rounds.{HasFewOpen, LeavesPreDumps}
use Rattle.sd_core.specs.Working.{left_by}
use Rattle.sd_world.specs.declared.event.Event.{Event}
use Rattle.sd_world.specs.declared.event.Event.TheVariants.{HandInAt, Perform, PerformAt, TakeUp, Work}
use Rattle.sd_world.specs.Acked.{IsWorldThere}
use Rattle.sd_world.specs.Points.{StandsAt}
use Rattle.sd_world.specs.Promise.{Moves, Point}
use Rattle.sd_world.specs.Runs.{IsStep}
use Rattle.sd_world.specs.Steps.{Does, IsAnsweredByDevice, LeavesLess}
use Rattle.sd_world.specs.View.{WorldView, asked_count, is_asked}

-- what is so of every disk
pub record IsSoundDisk {D : Type 0} (g : Ghosts D) (disk : D) : Type 0 where
  pub given_up : GivenUpFits (g.contents disk) (g.may_leave disk)
  pub synced : SyncedIsFound (g.contents disk) (g.may_leave disk)
  pub as_read : g.may_leave disk (g.contents disk)
  pub same_slots : Within (g.may_leave disk) (λ c. length c ≡ length (g.contents disk))
  pub only_now : Within (g.left_since disk (g.moment disk)) (g.may_leave disk)

-- what is so of every core
pub record IsSoundCore (core : CoreView) : Type 0 where
  pub lanes : AreOwnLanes core.outs
  pub jobs : HasItsJobs core
  pub opener : OpenerAsksAlone core
  pub goes : CanGoOn core
  pub merged : LeavesMerged core
  pub looks : LeavesPreDumps core
  pub few : HasFewOpen core.dumper.running
  pub alone : core.opener ≢ None → core.dumper.running ≡ None
  pub pre_dumps : HasItsPreDumps core
  pub tracked : IsTracked core.base core.items core.memory

-- what is so of every world
pub record IsSoundWorld {D : Type 0} (g : Ghosts D) (world : WorldView D) : Type 0 where
  pub there : IsWorldThere g world
  pub disk : IsSoundDisk g world.disk
  pub core : IsSoundCore world.core

-- the event is made: it does this, from a sound world to one
pub record IsMade {D : Type 0} (g : Ghosts D) (event : Event) (old : WorldView D) (answer : Reply)
    (new : WorldView D) : Type 0 where
  pub was : IsSoundWorld g old
  pub does : Does g event old answer new
  pub is : IsSoundWorld g new

-- From each point of a run at which the world stands it moves to one at which it stands then.
abbrev pub MovesOn : {D : Type 0} → Ghosts D → Event → WorldView D → Reply → WorldView D → Type 0
MovesOn {D} g event old answer new = (first : Point D) → StandsAt old first
    → (last : Point D) × StandsAt new last × Moves g event answer first last

-- What an event makes of a worker's device calls, and of what is left of its job.
pub record Counts {D : Type 0} (g : Ghosts D) (event : Event) (old : WorldView D) (answer : Reply)
    (new : WorldView D) : Type 0 where
  -- where no call of the worker is out, its call is refused as idle, and nothing changes
  pub idle : (worker : Worker) → event ≡ Perform worker → is_asked old.kept worker ≡ false
      → (answer ≡ reply.Refused Idle) × (new ≡ old)
  -- after a device call one fewer is out that wasn't made; it is answered by how it ended
  pub made : (worker : Worker) → event ≡ Perform worker → is_asked old.kept worker ≡ true
      → asked_count new.kept worker < asked_count old.kept worker
  pub device : (worker : Worker) → event ≡ Perform worker → is_asked old.kept worker ≡ true
      → IsAnsweredByDevice (g.failed old.disk) (g.failed new.disk) answer
  -- no other event touches the disk
  pub quiet : ((worker : Worker) → event ≢ Perform worker)
      → ((worker : Worker) (place : ℕ) → event ≢ PerformAt worker place) → new.disk ≡ old.disk
  -- a worker's step, or an outcome that is handed in, lowers what is left of its job, unless that ends or is refused
  pub lowers : (worker : Worker) → event ≡ Work worker
      → LeavesLess answer (left_by old.core worker) (left_by new.core worker)
  pub lowers_up : (worker : Worker) → event ≡ TakeUp worker
      → LeavesLess answer (left_by old.core worker) (left_by new.core worker)
  pub lowers_at : (worker : Worker) (place : ℕ) → event ≡ HandInAt worker place
      → LeavesLess answer (left_by old.core worker) (left_by new.core worker)

-- an event that is made is a step
abbrev pub MadeIsStep : {D : Type 0} → Ghosts D → Type 0
MadeIsStep {D} g = (event : Event) (old : WorldView D) (answer : Reply) (new : WorldView D)
    → IsMade g event old answer new → IsStep g event old answer new

-- and has its effect on device calls, and on what is left of a job
abbrev pub MadeCounts : {D : Type 0} → Ghosts D → Type 0
MadeCounts {D} g = (event : Event) (old : WorldView D) (answer : Reply) (new : WorldView D)
    → IsMade g event old answer new → Counts g event old answer new

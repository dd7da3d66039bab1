-- A step of the dumper's pass, as an event of the world.
use Rattle.std.proofs.Common.{◌≡◌, ◌≢◌, ◌<◌, ℕ, true, false, Option, None, Some, MatchOption, is_some, refl, sym, subst}
use Rattle.sd_command.specs.declared.reply.Reply.TheVariants as reply
use Rattle.sd_disk.specs.declared.disk.Disk.{Ghosts}
use Rattle.sd_gate.specs.Laws.{GivenUpFits, WritesCommute}
use Rattle.sd_gate.specs.declared.worker.Worker.TheVariants as its
use Rattle.sd_store_laws.specs.GateSteps.{SyncedIsFound}
use Rattle.sd_crash_safety.specs.Laws.{PerformedIsBelieved}
use Rattle.sd_crash_safety.specs.View.{CoreView}
use Rattle.sd_core.specs.declared.taken.Taken.TheVariants.{Step as StepTaken}
use Rattle.sd_core.specs.Called.{IsTakenUp}
use Rattle.sd_core.specs.Kept.{HasItsPreDumps}
use Rattle.sd_core.specs.Rounds.{LeavesPreDumps}
use Rattle.sd_core.specs.Working.{left_by}
use Rattle.sd_world.specs.declared.call_state.CallState.TheVariants as call
use Rattle.sd_world.specs.declared.event.Event.{Event}
use Rattle.sd_world.specs.declared.event.Event.TheVariants.{Work}
use Rattle.sd_world.specs.Acked.{IsWorldThere}
use Rattle.sd_world.specs.Consistent.{IsWorld}
use Rattle.sd_world.specs.Steps.{IsWork, WorkerTakesUp, WorkerWorks}
use Rattle.sd_world.specs.View.{IsNowhere, WorldView}
use Rattle.sd_world.proofs.AckedLemmas.{step_pre_dumps}
use Rattle.sd_world.proofs.LowersLemmas.{work_lowers}
use Rattle.sd_world.proofs.StepLemmas.{step_world}

-- what is so where a search finds nothing
pub not_found : (Found : ℕ → Type 0) (None_is : Type 0) (found : Option ℕ) → MatchOption found None_is Found → is_some found ≡ false → None_is
not_found Found None_is None tells none = tells
not_found Found None_is (Some lane) tells none = absurd (let no : true ≡ false = none in cc)

-- no outcome of the dumper is kept, in one view of a world as in the other
pub none_made : {D : Type 0} (old now : WorldView D) → old ≡ now → IsNowhere now.kept call.Made its.Dumper 0 → IsNowhere old.kept call.Made its.Dumper 0
none_made {D} old now is none = subst (λ (w : WorldView D). IsNowhere w.kept call.Made its.Dumper 0) (sym is) none

module _ {D : Type 0} (g : Ghosts D) (old : WorldView D) (later : CoreView) (taken : IsTakenUp its.Dumper old.core (StepTaken reply.Worked) later)
    (nowhere : IsNowhere old.kept call.Made its.Dumper 0) (was : IsWorldThere g old) (pre_new : HasItsPreDumps later)
    (gives : GivenUpFits (g.contents old.disk) (g.may_leave old.disk)) (found : SyncedIsFound (g.contents old.disk) (g.may_leave old.disk))
    (as_read : g.may_leave old.disk (g.contents old.disk)) (performed : PerformedIsBelieved) (commute : WritesCommute) where
  abbrev new : WorldView D
  new = record { core = later; disk = old.disk; kept = old.kept }

  abbrev event : Event
  event = Work its.Dumper

  pub does : IsWork its.Dumper old reply.Worked new
  does = record { works = WorkerWorks.takes_up nowhere (WorkerTakesUp.step taken refl); disk = refl }

  is : IsWorld g new
  is = step_world g old new gives found as_read performed commute was.is event reply.Worked does

  -- what is so of every world
  pub passed_there : LeavesPreDumps old.core → (old.core.opener ≢ None → old.core.dumper.running ≡ None) → IsWorldThere g new
  passed_there looks alone = record {
    is = is;
    pre_dumps = λ honest. step_pre_dumps g old new pre_new was.is (was.is.consistent honest) is (is.consistent honest) event reply.Worked looks alone does (was.pre_dumps honest);
  }

  -- less of the job is left
  pub passed_lowers : left_by later its.Dumper < left_by old.core its.Dumper
  passed_lowers = work_lowers g old new was.is its.Dumper reply.Worked does

use Rattle.std.proofs.Common.{◌<◌, Ok, ◌∙◌, ap, refl, subst}
use Rattle.sd_core.specs.declared.taken.Taken.TheVariants.{Step as StepTaken}
use Rattle.sd_core.specs.Called.{IsTakenUp}
use Rattle.sd_core.specs.Working.{left_by}
use Rattle.sd_gate.specs.declared.worker.Worker.TheVariants as its
use Rattle.sd_command.specs.declared.reply.Reply.TheVariants as reply
use Rattle.sd_world.specs.declared.event.Event.TheVariants.{Work}
use Rattle.sd_world.specs.Made.{IsMade}
use Rattle.sd_world.specs.Runs.{IsStep}
use Rattle.sd_world.specs.Steps.{WorkerTakesUp, WorkerWorks}
use Rattle.sd_world.specs.View.{WorldView}
use Rattle.sd_world.proofs.PassingLemmas.{none_made, passed_lowers, passed_there}
use Rattle.sd_world.proofs.world.World.pass_one.Goals as goal

pub invariant_of-self-2 : goal.invariant_of-self-2
invariant_of-self-2 g c =
    passed_there g.D.Disk (record { core = c.self.inside.core; disk = c.self.inside.disk; kept = c.self.inside.kept }) c.pass.new.self
    (c.pass.ensures.worked (c.in-Ok.is ∙ ap Ok c.if-not-passed.false)) (none_made _ _ c.self.view_is c.requires) c.self.invariant c.world_laws-2.ensures.core.pre_dumps
    c.world_laws.ensures.disk.given_up c.world_laws.ensures.disk.synced
    c.world_laws.ensures.disk.as_read c.store_laws.ensures.performed c.store_laws.ensures.commute c.world_laws.ensures.core.looks c.world_laws.ensures.core.alone

pub returns-clause-step : goal.returns-clause-step
returns-clause-step g c = λ _. subst (λ w. IsStep g.D.Disk (Work its.Dumper) w reply.Worked new) c.self.view_is (c.made_event_laws.ensures.step (Work its.Dumper) old reply.Worked new made)
  where
    old : WorldView g.row.D.Denot
    old = record { core = c.self.inside.core; disk = c.self.inside.disk; kept = c.self.inside.kept }

    new : WorldView g.row.D.Denot
    new = record { core = c.pass.new.self; disk = c.self.inside.disk; kept = c.self.inside.kept }

    taken : IsTakenUp its.Dumper c.self.inside.core (StepTaken reply.Worked) c.pass.new.self
    taken = c.pass.ensures.worked (c.in-Ok.is ∙ ap Ok c.if-not-passed.false)

    made : IsMade g.D.Disk (Work its.Dumper) old reply.Worked new
    made = record {
      was = record { there = c.self.invariant; disk = c.world_laws.ensures.disk; core = c.world_laws.ensures.core };
      does = record { works = WorkerWorks.takes_up (none_made _ _ c.self.view_is c.requires) (WorkerTakesUp.step taken refl); disk = refl };
      is = record { there = invariant_of-self-2 g c; disk = c.world_laws-2.ensures.disk; core = c.world_laws-2.ensures.core };
    }

pub returns-clause-lowers : goal.returns-clause-lowers
returns-clause-lowers g c = λ _. subst (λ (w : WorldView g.row.D.Denot). left_by c.pass.new.self its.Dumper < left_by w.core its.Dumper) c.self.view_is
    (passed_lowers g.D.Disk (record { core = c.self.inside.core; disk = c.self.inside.disk; kept = c.self.inside.kept }) c.pass.new.self
    (c.pass.ensures.worked (c.in-Ok.is ∙ ap Ok c.if-not-passed.false)) (none_made _ _ c.self.view_is c.requires) c.self.invariant c.world_laws-2.ensures.core.pre_dumps
    c.world_laws.ensures.disk.given_up c.world_laws.ensures.disk.synced
    c.world_laws.ensures.disk.as_read c.store_laws.ensures.performed c.store_laws.ensures.commute)

use Rattle.std.proofs.Common.{refl, subst}
use Rattle.sd_world.specs.declared.event.Event.{Event}
use Rattle.sd_world.specs.declared.event.Event.TheVariants.{Command}
use Rattle.sd_world.specs.Made.{IsMade}
use Rattle.sd_world.specs.Runs.{IsStep}
use Rattle.sd_world.specs.View.{WorldView}
use Rattle.sd_world.proofs.CommandLemmas.{command_there}
use Rattle.sd_world.proofs.world.World.apply.Goals as goal

pub invariant_of-self : goal.invariant_of-self
invariant_of-self g c =
    command_there g.D.Disk (record { core = c.self.inside.core; disk = c.self.inside.disk; kept = c.self.inside.kept }) c.apply_owned-told.new.self
    c.args.seat c.args.command c.apply_owned-told.result c.answer_of.result c.apply_owned-told.ensures c.answer_of.ensures c.self.invariant c.world_laws.ensures.disk.given_up
    c.world_laws-2.ensures.core.pre_dumps c.world_laws.ensures.core.looks c.world_laws.ensures.core.alone

pub returns : goal.returns
returns g c = subst (λ w. IsStep g.D.Disk event w c.answer_of.result new) c.self.view_is (c.made_event_laws.ensures.step event old c.answer_of.result new made)
  where
    event : Event
    event = Command c.args.seat c.args.command

    old : WorldView g.row.D.Denot
    old = record { core = c.self.inside.core; disk = c.self.inside.disk; kept = c.self.inside.kept }

    new : WorldView g.row.D.Denot
    new = record { core = c.apply_owned-told.new.self; disk = c.self.inside.disk; kept = c.self.inside.kept }

    made : IsMade g.D.Disk event old c.answer_of.result new
    made = record {
      was = record { there = c.self.invariant; disk = c.world_laws.ensures.disk; core = c.world_laws.ensures.core };
      does = record { told = c.apply_owned-told.result; applied = c.apply_owned-told.ensures; answered = c.answer_of.ensures; rest = record { disk = refl; kept = refl } };
      is = record { there = invariant_of-self g c; disk = c.world_laws-2.ensures.disk; core = c.world_laws-2.ensures.core };
    }

use Rattle.std.proofs.Common.{refl, subst}
use Rattle.sd_world.specs.declared.kept.Kept.TheVariants.{Request}
use Rattle.sd_world.specs.Acked.{HasPreDumpsThere}
use Rattle.sd_world.specs.Consistent.{IsWorld}
use Rattle.sd_world.specs.Made.{IsMade}
use Rattle.sd_world.specs.View.{WorldView}
use Rattle.sd_world.proofs.AckedLemmas.{step_pre_dumps}
use Rattle.sd_world.proofs.AddsLemmas.{step_honest}
use Rattle.sd_world.proofs.StepLemmas.{step_world}
use Rattle.sd_world.proofs.world.World.step.Goals as goal

pub make_step-answer-requires : goal.make_step-answer-requires
make_step-answer-requires g c = λ lane request at. c.self.invariant.is.places.range lane (Request request) request at refl

pub invariant_of-self : goal.invariant_of-self
invariant_of-self g c = record { is = is; pre_dumps = pre_dumps }
  where
    old : WorldView g.row.D.Denot
    old = record { core = c.self.inside.core; disk = c.self.inside.disk; kept = c.self.inside.kept }

    new : WorldView g.row.D.Denot
    new = record { core = c.make_step-answer.new.core; disk = c.make_step-answer.new.disk; kept = c.make_step-answer.new.kept }

    is : IsWorld g.D.Disk new
    is = step_world g.D.Disk old new c.world_laws.ensures.disk.given_up c.world_laws.ensures.disk.synced c.world_laws.ensures.disk.as_read
        c.store_laws.ensures.performed c.store_laws.ensures.commute c.self.invariant.is c.args.event.now c.make_step-answer.result c.make_step-answer.ensures

    pre_dumps : g.D.Disk.is_honest new.disk → HasPreDumpsThere g.D.Disk new
    pre_dumps honest =
        let before = step_honest g.D.Disk old new c.self.invariant.is c.args.event.now c.make_step-answer.result c.make_step-answer.ensures honest in
        step_pre_dumps g.D.Disk old new c.world_laws-2.ensures.core.pre_dumps c.self.invariant.is (c.self.invariant.is.consistent before) is (is.consistent honest)
        c.args.event.now c.make_step-answer.result c.world_laws.ensures.core.looks c.world_laws.ensures.core.alone c.make_step-answer.ensures (c.self.invariant.pre_dumps before)

pub returns-clause-does : goal.returns-clause-does
returns-clause-does g c = subst (λ w. IsMade g.D.Disk c.args.event.now w c.make_step-answer.result new) c.self.view_is (record {
  was = record { there = c.self.invariant; disk = c.world_laws.ensures.disk; core = c.world_laws.ensures.core };
  does = c.make_step-answer.ensures;
  is = record { there = invariant_of-self g c; disk = c.world_laws-2.ensures.disk; core = c.world_laws-2.ensures.core };
})
  where
    new : WorldView g.row.D.Denot
    new = record { core = c.make_step-answer.new.core; disk = c.make_step-answer.new.disk; kept = c.make_step-answer.new.kept }

pub returns-clause-moves : goal.returns-clause-moves
returns-clause-moves g c = λ honest first stands.
    let new : WorldView g.row.D.Denot = record { core = c.make_step-answer.new.core; disk = c.make_step-answer.new.disk; kept = c.make_step-answer.new.kept } in
    c.points_follow.ensures c.args.event.now c.args.self.now c.make_step-answer.result new
    (c.made_event_laws.ensures.step c.args.event.now c.args.self.now c.make_step-answer.result new (returns-clause-does g c)) honest first stands

use Rattle.std.proofs.Common.{◌≡◌, false, refl, sym, ◌∙◌, ap, subst, arith}
use Rattle.sd_command.specs.declared.reply.Reply.TheVariants as reply
use Rattle.sd_gate.specs.declared.worker.Worker.TheVariants as its
use Rattle.sd_world.specs.declared.call_state.CallState.TheVariants as call
use Rattle.sd_world.specs.declared.event.Event.TheVariants.{Work}
use Rattle.sd_world.specs.Runs.{IsStep}
use Rattle.sd_world.specs.View.{IsNowhere, is_asked}
use Rattle.sd_world.proofs.DriveLemmas.{called_more, called_none, step_next}
use Rattle.sd_world.proofs.GoesOnLemmas.{goes_by_event, goes_further, goes_nowhere}
use Rattle.sd_world.proofs.RepeatLemmas.{repeated}
use Rattle.sd_world.proofs.world.World.pass_on.Goals as goal

pub loop-steps-init : goal.loop-steps-init
loop-steps-init g c = record {
  works = refl;
  made = called_none g.D.Disk its.Dumper c.args.self.now;
  kept = refl;
  lowers = omega arith;
  goes_on = goes_nowhere g.D.Disk c.args.self.now (g.met.D.Disk.only_now c.args.self.now.disk) c.sound.ensures.allowed;
}

pub pass_one-requires : goal.pass_one-requires
pass_one-requires g c = subst (λ kept. IsNowhere kept call.Made its.Dumper 0) (sym c.loop-steps.invariant.kept) (c.has_call.ensures.nowhere c.if-has_call.false)

pub loop-steps-preserved : goal.loop-steps-preserved
loop-steps-preserved g c =
    let first = c.args.self.now in
    let mid = c.loop-steps.self in
    let last = c.pass_one.new.self in
    let so_far = c.loop-steps.invariant in
    let step = c.pass_one.ensures.step c.in_default.is in
    let unasked : is_asked mid.kept its.Dumper ≡ false = ap (λ kept. is_asked kept its.Dumper) so_far.kept ∙ c.has_call.ensures.unasked c.if-has_call.false in
    record {
      works = repeated g.D.Disk (Work its.Dumper) reply.Worked c.loop-steps.steps first mid last so_far.works step;
      made = called_more g.D.Disk its.Dumper first mid last reply.Worked so_far.made refl
          (subst (λ e. IsStep g.D.Disk e mid reply.Worked last) (sym (step_next g.D.Disk its.Dumper mid unasked)) step);
      kept = c.pass_one.ensures.kept c.in_default.is ∙ so_far.kept;
      lowers = let fewer = c.pass_one.ensures.lowers c.in_default.is in let before = so_far.lowers in omega (arith, fewer, before);
      goes_on = goes_further g.D.Disk first mid last so_far.goes_on (goes_by_event g.D.Disk (Work its.Dumper) reply.Worked mid last step step.honest step.any_moment);
    }

pub returns-then-has_call-clause-goes_on : goal.returns-then-has_call-clause-goes_on
returns-then-has_call-clause-goes_on g c = goes_nowhere g.D.Disk c.args.self.now (g.met.D.Disk.only_now c.args.self.now.disk) c.sound.ensures.allowed

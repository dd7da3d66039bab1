use Rattle.std.proofs.Common.{◌≤◌, refl, sym, ◌∙◌, subst, arith}
use Rattle.sd_crash_safety.specs.View.{CoreView}
use Rattle.sd_core.specs.Working.{left_by}
use Rattle.sd_world.specs.Runs.{IsStep}
use Rattle.sd_world.proofs.DriveLemmas.{call_next, called_driven, called_more, less_of, step_next}
use Rattle.sd_world.proofs.GoesOnLemmas.{goes_further}
use Rattle.sd_world.proofs.world.World.turn.Goals as goal

pub loop-self-init : goal.loop-self-init
loop-self-init g c = record { made = c.pass_first.ensures.made; goes_on = c.pass_first.ensures.goes_on; less = c.pass_first.ensures.less }

pub returns-then-is_end-clause-driven : goal.returns-then-is_end-clause-driven
returns-then-is_end-clause-driven g c =
    let mid = c.loop-self.self in
    called_driven g.D.Disk c.args.worker c.args.self.now mid c.make-called.new.self c.make-called.result c.loop-self.invariant.made
    (subst (λ e. IsStep g.D.Disk e mid c.make-called.result c.make-called.new.self)
    (sym (call_next g.D.Disk c.args.worker mid (sym c.is_out.ensures ∙ c.loop-self-test.true))) c.make-called.ensures.step)

pub returns-then-is_end-clause-goes_on : goal.returns-then-is_end-clause-goes_on
returns-then-is_end-clause-goes_on g c = goes_further g.D.Disk c.args.self.now c.loop-self.self c.make-called.new.self c.loop-self.invariant.goes_on c.make-called.ensures.goes_on

pub loop-self-preserved : goal.loop-self-preserved
loop-self-preserved g c =
    let mid = c.loop-self.self in
    record {
      made = called_more g.D.Disk c.args.worker c.args.self.now mid c.make-called.new.self c.make-called.result c.loop-self.invariant.made
          (sym c.is_end.ensures ∙ c.if-is_end.false)
          (subst (λ e. IsStep g.D.Disk e mid c.make-called.result c.make-called.new.self)
          (sym (call_next g.D.Disk c.args.worker mid (sym c.is_out.ensures ∙ c.loop-self-test.true))) c.make-called.ensures.step);
      goes_on = goes_further g.D.Disk c.args.self.now mid c.make-called.new.self c.loop-self.invariant.goes_on c.make-called.ensures.goes_on;
      less = subst (λ (core : CoreView). left_by core c.args.worker ≤ left_by c.args.self.now.core c.args.worker) (sym (c.make-called.ensures.still c.args.worker refl)) c.loop-self.invariant.less;
    }

pub returns-clause-driven : goal.returns-clause-driven
returns-clause-driven g c =
    let mid = c.loop-self.self in
    called_driven g.D.Disk c.args.worker c.args.self.now mid c.make.new.self c.make.result c.loop-self.invariant.made
    (subst (λ e. IsStep g.D.Disk e mid c.make.result c.make.new.self)
    (sym (step_next g.D.Disk c.args.worker mid (sym c.is_out.ensures ∙ c.loop-self-test.false))) c.make.ensures.step)

pub returns-clause-goes_on : goal.returns-clause-goes_on
returns-clause-goes_on g c = goes_further g.D.Disk c.args.self.now c.loop-self.self c.make.new.self c.loop-self.invariant.goes_on c.make.ensures.goes_on

pub returns-clause-lowers : goal.returns-clause-lowers
returns-clause-lowers g c = λ goes.
    let fewer = less_of c.make.result (left_by c.loop-self.self.core c.args.worker) (left_by c.make.new.self.core c.args.worker) goes (c.make.ensures.lowers c.args.worker refl) in
    let so_far = c.loop-self.invariant.less in
    omega (arith, fewer, so_far)

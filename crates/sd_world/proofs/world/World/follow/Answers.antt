use Rattle.std.proofs.Common.{◌≡◌, Bool, true, false, refl, sym, ◌∙◌, ap, arith}
use Rattle.sd_core.specs.Working.{left_by}
use Rattle.sd_world.specs.Jobs.{is_end}
use Rattle.sd_world.proofs.DriveLemmas.{driven_on}
use Rattle.sd_world.proofs.GoesOnLemmas.{goes_further}
use Rattle.sd_world.proofs.world.World.follow.Goals as goal

pub loop-init : goal.loop-init
loop-init g c = record {
  driven = c.turn-answer.ensures.driven;
  goes_on = c.turn-answer.ensures.goes_on;
  less = λ goes. let lowers = c.turn-answer.ensures.lowers goes in let left = c.left-left.ensures.left ∙ ap (λ core. left_by core c.args.worker) c.core.ensures in omega (arith, lowers, left);
}

pub returns-then-is_end-clause-finished : goal.returns-then-is_end-clause-finished
returns-then-is_end-clause-finished g c = record { driven = c.loop.invariant.driven; ends = sym c.is_end.ensures ∙ c.if-is_end.true }

pub returns-then-is_end-clause-goes_on : goal.returns-then-is_end-clause-goes_on
returns-then-is_end-clause-goes_on g c = c.loop.invariant.goes_on

pub loop-preserved : goal.loop-preserved
loop-preserved g c =
    let last = c.turn-answer-in-loop in
    let goes : is_end c.loop.answer ≡ false = sym c.is_end.ensures ∙ c.if-is_end.false in
    record {
      driven = driven_on g.D.Disk c.args.worker c.args.self.now c.loop.self last.new.self c.loop.answer last.result c.loop.invariant.driven goes last.ensures.driven;
      goes_on = goes_further g.D.Disk c.args.self.now c.loop.self last.new.self c.loop.invariant.goes_on last.ensures.goes_on;
      less = λ more. let lowers = last.ensures.lowers more in let before = c.loop.invariant.less goes in omega (arith, lowers, before);
    }

pub returns-clause-finished : goal.returns-clause-finished
returns-clause-finished g c = record { driven = c.loop.invariant.driven; ends = ended (is_end c.loop.answer) refl }
  where
    ended : (b : Bool) → is_end c.loop.answer ≡ b → b ≡ true
    ended true is = refl
    ended false is = absurd (let less = c.loop.invariant.less is in let counter = c.loop.far-counter in omega (arith, less, counter))

pub returns-clause-goes_on : goal.returns-clause-goes_on
returns-clause-goes_on g c = c.loop.invariant.goes_on

use Rattle.std.proofs.Common.{◌≡◌, false, sym, ◌∙◌, subst}
use Rattle.sd_world.specs.Runs.{IsStep}
use Rattle.sd_world.specs.Jobs.{is_end}
use Rattle.sd_world.proofs.DriveLemmas.{driven_more, driven_once}
use Rattle.sd_world.proofs.GoesOnLemmas.{goes_further}
use Rattle.sd_world.proofs.world.World.advance.Goals as goal

pub loop-init : goal.loop-init
loop-init g c = record {
  driven = driven_once g.D.Disk c.args.worker c.args.self.now c.make-answer.new.self c.make-answer.result
      (subst (λ event. IsStep g.D.Disk event c.args.self.now c.make-answer.result c.make-answer.new.self) c.next_event-first.ensures
      c.make-answer.ensures.step);
  goes_on = c.make-answer.ensures.goes_on;
}

pub loop-preserved : goal.loop-preserved
loop-preserved g c =
    let last = c.make-answer-in-loop in
    let goes : is_end c.loop.answer ≡ false = sym c.is_end.ensures ∙ c.if-is_end.false in
    record {
      driven = driven_more g.D.Disk c.args.worker c.loop.counter c.args.self.now c.loop.self last.new.self c.loop.answer last.result
          c.loop.invariant.driven goes
          (subst (λ event. IsStep g.D.Disk event c.loop.self last.result last.new.self) c.next_event-next.ensures last.ensures.step);
      goes_on = goes_further g.D.Disk c.args.self.now c.loop.self last.new.self c.loop.invariant.goes_on last.ensures.goes_on;
    }

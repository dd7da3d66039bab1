-- Each line is answered after the ones before it.
use Rattle.sd_world.proofs.GoesOnLemmas.{goes_further}
use Rattle.sd_shell.proofs.shell.answer_all.Goals as goal

pub returns-in_err-answer_next : goal.returns-in_err-answer_next
returns-in_err-answer_next g c = record { goes_on = goes_further g.D.Disk c.args.world.now c.loop-number.world c.answer_next.new.world c.loop-number.invariant c.answer_next.ensures.goes_on }

pub loop-number-preserved : goal.loop-number-preserved
loop-number-preserved g c = goes_further g.D.Disk c.args.world.now c.loop-number.world c.answer_next.new.world c.loop-number.invariant c.answer_next.ensures.goes_on

pub returns-then-not-branch : goal.returns-then-not-branch
returns-then-not-branch g c = record { goes_on = goes_further g.D.Disk c.args.world.now c.loop-number.world c.answer_next.new.world c.loop-number.invariant c.answer_next.ensures.goes_on }

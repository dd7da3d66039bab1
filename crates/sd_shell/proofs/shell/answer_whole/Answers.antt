-- The bytes in bulk are answered after their line.
use Rattle.sd_world.proofs.GoesOnLemmas.{goes_further, goes_nowhere}
use Rattle.sd_shell.proofs.shell.answer_whole.Goals as goal

pub returns-then-eq : goal.returns-then-eq
returns-then-eq g c = record { goes_on = goes_nowhere g.D.Disk c.args.world.now (g.met.D.Disk.only_now c.args.world.now.disk) c.sound.ensures.allowed }

pub returns-in_err-answer_bulk : goal.returns-in_err-answer_bulk
returns-in_err-answer_bulk g c = record { goes_on = goes_further g.D.Disk c.args.world.now c.answer.new.world c.answer_bulk.new.world c.answer.ensures.goes_on c.answer_bulk.ensures.goes_on }

pub returns : goal.returns
returns g c = record { goes_on = goes_further g.D.Disk c.args.world.now c.answer.new.world c.answer_bulk.new.world c.answer.ensures.goes_on c.answer_bulk.ensures.goes_on }

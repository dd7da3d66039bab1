-- The request is answered after what was handed in.
use Rattle.sd_world.proofs.GoesOnLemmas.{goes_further}
use Rattle.sd_shell.proofs.shell.answer_request.Goals as goal

pub returns-in_err-given : goal.returns-in_err-given
returns-in_err-given g c = record { goes_on = goes_further g.D.Disk c.args.world.now c.hand_in_failed.new.world c.run_line.new.world c.hand_in_failed.ensures.goes_on c.run_line.ensures.goes_on }

pub returns : goal.returns
returns g c = record { goes_on = goes_further g.D.Disk c.args.world.now c.hand_in_failed.new.world c.run_line.new.world c.hand_in_failed.ensures.goes_on c.run_line.ensures.goes_on }

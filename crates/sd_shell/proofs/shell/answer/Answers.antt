-- Only a request of the language makes events.
use Rattle.sd_world.proofs.GoesOnLemmas.{goes_nowhere}
use Rattle.sd_shell.proofs.shell.answer.Goals as goal

pub returns-in_err-print_requests : goal.returns-in_err-print_requests
returns-in_err-print_requests g c = record { goes_on = goes_nowhere g.D.Disk c.args.world.now (g.met.D.Disk.only_now c.args.world.now.disk) c.sound.ensures.allowed }

pub returns-then-eq-2 : goal.returns-then-eq-2
returns-then-eq-2 g c = record { goes_on = goes_nowhere g.D.Disk c.args.world.now (g.met.D.Disk.only_now c.args.world.now.disk) c.sound.ensures.allowed }

pub returns-in_err-bulk : goal.returns-in_err-bulk
returns-in_err-bulk g c = record { goes_on = goes_nowhere g.D.Disk c.args.world.now (g.met.D.Disk.only_now c.args.world.now.disk) c.sound.ensures.allowed }

pub returns-in-Some-Fits : goal.returns-in-Some-Fits
returns-in-Some-Fits g c = record { goes_on = goes_nowhere g.D.Disk c.args.world.now (g.met.D.Disk.only_now c.args.world.now.disk) c.sound.ensures.allowed }

pub returns-in_err-refuse_line-in-Some-Unfit : goal.returns-in_err-refuse_line-in-Some-Unfit
returns-in_err-refuse_line-in-Some-Unfit g c = record { goes_on = goes_nowhere g.D.Disk c.args.world.now (g.met.D.Disk.only_now c.args.world.now.disk) c.sound.ensures.allowed }

pub returns-in_ok-refuse_line-in-Some-Unfit : goal.returns-in_ok-refuse_line-in-Some-Unfit
returns-in_ok-refuse_line-in-Some-Unfit g c = record { goes_on = goes_nowhere g.D.Disk c.args.world.now (g.met.D.Disk.only_now c.args.world.now.disk) c.sound.ensures.allowed }

-- Without a failed call nothing is done.
use Rattle.sd_world.proofs.GoesOnLemmas.{goes_nowhere}
use Rattle.sd_shell.proofs.shell.hand_in_failed.Goals as goal

pub returns-2 : goal.returns-2
returns-2 g c = record { goes_on = goes_nowhere g.D.Disk c.args.world.now (g.met.D.Disk.only_now c.args.world.now.disk) c.sound.ensures.allowed }

pub returns : goal.returns
returns g c = record { goes_on = goes_nowhere g.D.Disk c.args.world.now (g.met.D.Disk.only_now c.args.world.now.disk) c.sound.ensures.allowed }

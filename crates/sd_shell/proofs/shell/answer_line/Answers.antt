-- A line without a request changes nothing.
use Rattle.sd_world.proofs.GoesOnLemmas.{goes_nowhere}
use Rattle.sd_shell.proofs.shell.answer_line.Goals as goal

pub returns-in-Ok-None : goal.returns-in-Ok-None
returns-in-Ok-None g c = record { goes_on = goes_nowhere g.D.Disk c.args.world.now (g.met.D.Disk.only_now c.args.world.now.disk) c.sound.ensures.allowed }

pub returns-in-Err-Line : goal.returns-in-Err-Line
returns-in-Err-Line g c = record { goes_on = goes_nowhere g.D.Disk c.args.world.now (g.met.D.Disk.only_now c.args.world.now.disk) c.sound.ensures.allowed }

pub returns-in-Err-OutOfMemory : goal.returns-in-Err-OutOfMemory
returns-in-Err-OutOfMemory g c = record { goes_on = goes_nowhere g.D.Disk c.args.world.now (g.met.D.Disk.only_now c.args.world.now.disk) c.sound.ensures.allowed }

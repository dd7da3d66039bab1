-- Where no line comes nothing is done.
use Rattle.sd_world.proofs.GoesOnLemmas.{goes_nowhere}
use Rattle.sd_shell.proofs.shell.answer_next.Goals as goal

pub returns-in_err-length : goal.returns-in_err-length
returns-in_err-length g c = record { goes_on = goes_nowhere g.D.Disk c.args.world.now (g.met.D.Disk.only_now c.args.world.now.disk) c.sound.ensures.allowed }

pub returns-in_err-end_prompt : goal.returns-in_err-end_prompt
returns-in_err-end_prompt g c = record { goes_on = goes_nowhere g.D.Disk c.args.world.now (g.met.D.Disk.only_now c.args.world.now.disk) c.sound.ensures.allowed }

pub returns-in_default : goal.returns-in_default
returns-in_default g c = record { goes_on = goes_nowhere g.D.Disk c.args.world.now (g.met.D.Disk.only_now c.args.world.now.disk) c.sound.ensures.allowed }

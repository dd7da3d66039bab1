-- Without room for the bytes nothing is loaded.
use Rattle.sd_world.proofs.GoesOnLemmas.{goes_nowhere}
use Rattle.sd_shell.proofs.bulk.answer_get.Goals as goal

pub returns-in_err-bytes : goal.returns-in_err-bytes
returns-in_err-bytes g c = record { goes_on = goes_nowhere g.D.Disk c.args.world.now (g.met.D.Disk.only_now c.args.world.now.disk) c.sound.ensures.allowed }

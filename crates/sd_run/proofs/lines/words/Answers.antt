use Rattle.sd_world.proofs.GoesOnLemmas.{goes_nowhere}
use Rattle.sd_run.proofs.lines.words.Goals as goal

pub returns-clause-goes_on : goal.returns-clause-goes_on
returns-clause-goes_on g c = goes_nowhere g.D.Disk c.args.world.now (g.met.D.Disk.only_now c.args.world.now.disk) c.sound.ensures.allowed

-- Each worker goes on after the ones before it.
use Rattle.sd_world.proofs.GoesOnLemmas.{goes_further, goes_nowhere}
use Rattle.sd_shell.proofs.shell.hand_in_all.Goals as goal

pub loop-worker-init : goal.loop-worker-init
loop-worker-init g c = goes_nowhere g.D.Disk c.args.world.now (g.met.D.Disk.only_now c.args.world.now.disk) c.sound.ensures.allowed

pub returns-in_err-hand_in : goal.returns-in_err-hand_in
returns-in_err-hand_in g c = record { goes_on = goes_further g.D.Disk c.args.world.now c.loop-worker.world c.hand_in.new.world c.loop-worker.invariant c.hand_in.ensures.goes_on }

pub loop-worker-preserved : goal.loop-worker-preserved
loop-worker-preserved g c = goes_further g.D.Disk c.args.world.now c.loop-worker.world c.hand_in.new.world c.loop-worker.invariant c.hand_in.ensures.goes_on

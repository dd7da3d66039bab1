-- The worker goes on from what it did so far.
use Rattle.sd_world.proofs.GoesOnLemmas.{goes_further, goes_nowhere}
use Rattle.sd_shell.proofs.shell.hand_in.Goals as goal

pub loop-init : goal.loop-init
loop-init g c = goes_nowhere g.D.Disk c.args.world.now (g.met.D.Disk.only_now c.args.world.now.disk) c.sound.ensures.allowed

pub returns-in_err-given : goal.returns-in_err-given
returns-in_err-given g c = record { goes_on = goes_further g.D.Disk c.args.world.now c.loop.world c.run_line.new.world c.loop.invariant c.run_line.ensures.goes_on }

pub loop-preserved : goal.loop-preserved
loop-preserved g c = goes_further g.D.Disk c.args.world.now c.loop.world c.run_line.new.world c.loop.invariant c.run_line.ensures.goes_on

pub returns-in-Reply-Refused-Idle : goal.returns-in-Reply-Refused-Idle
returns-in-Reply-Refused-Idle g c = record { goes_on = goes_further g.D.Disk c.args.world.now c.loop.world c.run_line.new.world c.loop.invariant c.run_line.ensures.goes_on }

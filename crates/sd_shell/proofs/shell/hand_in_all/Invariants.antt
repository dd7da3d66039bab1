use Rattle.sd_world.specs.Goes.{GoesOn}
use Rattle.sd_shell.proofs.shell.hand_in_all.Given as goal

-- the run went on so far
abbrev pub invariant-loop-worker : goal.invariant-loop-worker
invariant-loop-worker g l = GoesOn g.D.Disk l.fn.world l.world

use Rattle.sd_world.specs.Goes.{GoesOn}
use Rattle.sd_shell.proofs.shell.hand_in.Given as goal

-- the run went on so far
abbrev pub invariant-loop : goal.invariant-loop
invariant-loop g l = GoesOn g.D.Disk l.fn.world l.world

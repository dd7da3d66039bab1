use Rattle.sd_world.specs.Goes.{GoesOn}
use Rattle.sd_shell.proofs.shell.answer_all.Given as goal

-- the run went on so far
abbrev pub invariant-loop-number : goal.invariant-loop-number
invariant-loop-number g l = GoesOn g.D.Disk l.fn.world l.world

use Rattle.sd_world.specs.Goes.{GoesOn}
use Rattle.sd_jobs.proofs.import.import_all.Given as goal

-- the run went on so far
abbrev pub invariant-loop-source : goal.invariant-loop-source
invariant-loop-source g l = GoesOn g.D.Disk l.fn.world l.world

use Rattle.std.proofs.Common.{◌≤◌}
use Rattle.sd_core.specs.Working.{left_by}
use Rattle.sd_world.specs.View.{asked_count}
use Rattle.sd_world.specs.Goes.{GoesOn}
use Rattle.sd_world.specs.Jobs.{AreMade}
use Rattle.sd_world.proofs.world.World.turn.Given as goal

abbrev pub invariant-loop-self : goal.invariant-loop-self
invariant-loop-self g l = record {
  made : AreMade g.D.Disk l.worker l.fn.self l.self;
  goes_on : GoesOn g.D.Disk l.fn.self l.self;
  less : left_by l.self.core l.worker ≤ left_by l.fn.self.core l.worker;
}

-- one fewer is out with each
abbrev pub decreases-loop-self : goal.decreases-loop-self
decreases-loop-self g l = asked_count l.self.kept l.worker

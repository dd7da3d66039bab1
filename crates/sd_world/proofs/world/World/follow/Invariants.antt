use Rattle.std.proofs.Common.{◌≡◌, ◌≤◌, ◌+◌, false}
use Rattle.sd_core.specs.Working.{left_by}
use Rattle.sd_world.specs.Goes.{GoesOn}
use Rattle.sd_world.specs.Jobs.{AreDriven, is_end}
use Rattle.sd_world.proofs.world.World.follow.Given as goal

abbrev pub invariant-loop : goal.invariant-loop
invariant-loop g l = record {
  driven : AreDriven g.D.Disk l.worker l.fn.self l.answer l.self;
  goes_on : GoesOn g.D.Disk l.fn.self l.self;
  less : is_end l.answer ≡ false → left_by l.self.core l.worker + l.counter + 1 ≤ l.left;
}

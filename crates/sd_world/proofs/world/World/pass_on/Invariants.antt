use Rattle.std.proofs.Common.{◌≡◌, ◌≤◌, ◌+◌}
use Rattle.sd_core.specs.Working.{left_by}
use Rattle.sd_gate.specs.declared.worker.Worker.TheVariants as its
use Rattle.sd_world.specs.Goes.{GoesOn}
use Rattle.sd_world.specs.Jobs.{AreMade, WorksOnly}
use Rattle.sd_world.proofs.world.World.pass_on.Given as goal

abbrev pub invariant-loop-steps : goal.invariant-loop-steps
invariant-loop-steps g l = record {
  works : WorksOnly g.D.Disk l.steps l.fn.self l.self;
  made : AreMade g.D.Disk its.Dumper l.fn.self l.self;
  kept : l.self.kept ≡ l.fn.self.kept;
  lowers : left_by l.self.core its.Dumper + l.steps ≤ left_by l.fn.self.core its.Dumper;
  goes_on : GoesOn g.D.Disk l.fn.self l.self;
}

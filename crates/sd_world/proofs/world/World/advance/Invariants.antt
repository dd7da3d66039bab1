use Rattle.sd_world.specs.Goes.{GoesOn}
use Rattle.sd_world.proofs.DriveLemmas.{HasDriven}
use Rattle.sd_world.proofs.world.World.advance.Given as goal

abbrev pub invariant-loop : goal.invariant-loop
invariant-loop g l = record {
  driven : HasDriven g.D.Disk l.worker l.counter l.fn.self l.answer l.self;
  goes_on : GoesOn g.D.Disk l.fn.self l.self;
}

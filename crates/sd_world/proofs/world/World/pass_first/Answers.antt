use Rattle.std.proofs.Common.{◌≤◌, sym, subst, arith}
use Rattle.sd_core.specs.Working.{left_by}
use Rattle.sd_gate.specs.declared.worker.Worker.{Worker}
use Rattle.sd_world.specs.Jobs.{AreMade}
use Rattle.sd_world.proofs.DriveLemmas.{called_none}
use Rattle.sd_world.proofs.GoesOnLemmas.{goes_nowhere}
use Rattle.sd_world.proofs.world.World.pass_first.Goals as goal

pub returns-in-Dumper-clause-made : goal.returns-in-Dumper-clause-made
returns-in-Dumper-clause-made g c = subst (λ (w : Worker). AreMade g.D.Disk w c.args.self.now c.pass_on.new.self) (sym c.in-Dumper.is) c.pass_on.ensures.made

pub returns-in-Dumper-clause-less : goal.returns-in-Dumper-clause-less
returns-in-Dumper-clause-less g c =
    let fewer = c.pass_on.ensures.lowers in
    subst (λ (w : Worker). left_by c.pass_on.new.self.core w ≤ left_by c.args.self.now.core w) (sym c.in-Dumper.is) (omega (arith, fewer))

pub returns-in_default : goal.returns-in_default
returns-in_default g c = record {
  made = called_none g.D.Disk c.args.worker c.args.self.now;
  less = omega arith;
  goes_on = goes_nowhere g.D.Disk c.args.self.now (g.met.D.Disk.only_now c.args.self.now.disk) c.sound.ensures.allowed;
}

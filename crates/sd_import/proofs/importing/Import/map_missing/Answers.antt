use Rattle.sd_import.proofs.ChangeLemmas.{changes_further, may_further}
use Rattle.sd_import.proofs.importing.Import.map_missing.Goals as goal

pub loop-run-preserved : goal.loop-run-preserved
loop-run-preserved g c = record {
  changes = changes_further g.D.Disk c.args.self.now.space c.args.world.now c.loop-run.world c.ask.new.world c.loop-run.invariant.changes c.in_ok-ask.ensures.changes;
  goes_on = may_further g.D.Disk c.args.world.now c.loop-run.world c.ask.new.world c.loop-run.invariant.goes_on c.ask.ensures.goes_on;
}

pub returns-in_err-ask-clause-goes_on : goal.returns-in_err-ask-clause-goes_on
returns-in_err-ask-clause-goes_on g c = may_further g.D.Disk c.args.world.now c.loop-run.world c.ask.new.world c.loop-run.invariant.goes_on c.ask.ensures.goes_on

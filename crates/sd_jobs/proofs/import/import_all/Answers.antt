-- Each core is imported after the ones before it.
use Rattle.sd_world.proofs.GoesOnLemmas.{goes_further}
use Rattle.sd_jobs.proofs.import.import_all.Goals as goal

pub loop-source-preserved : goal.loop-source-preserved
loop-source-preserved g c =
    let before = c.loop-source.world in
    let imported = c.import_one.new.world in
    goes_further g.D.Disk c.args.world.now imported c.make.new.self
    (goes_further g.D.Disk c.args.world.now before imported c.loop-source.invariant c.import_one.ensures.goes_on) c.make.ensures.goes_on

pub returns-in_err-import_one : goal.returns-in_err-import_one
returns-in_err-import_one g c = record { goes_on = goes_further g.D.Disk c.args.world.now c.loop-source.world c.import_one.new.world c.loop-source.invariant c.import_one.ensures.goes_on }

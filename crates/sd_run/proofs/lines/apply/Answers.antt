use Rattle.sd_world.specs.declared.event.Event.TheVariants.{Command as CommandEvent}
use Rattle.sd_world.proofs.GoesOnLemmas.{goes_by_event}
use Rattle.sd_run.proofs.lines.apply.Goals as goal

pub returns-clause-goes_on : goal.returns-clause-goes_on
returns-clause-goes_on g c = goes_by_event g.D.Disk (CommandEvent 0 c.args.command) c.apply.result c.args.world.now c.apply.new.self c.apply.ensures
    c.apply.ensures.honest c.apply.ensures.any_moment

use Rattle.sd_import.proofs.ChangeLemmas.{may_further, then_ok}
use Rattle.sd_import.proofs.requests.make_space.Goals as goal

pub returns-clause-changes : goal.returns-clause-changes
returns-clause-changes g c = then_ok g.D.Disk c.args.space c.args.world.now c.fork_into.new.world c.ask.new.world c.ask.result c.in_ok-fork_into.ensures.changes c.ask.ensures.changes

pub returns-clause-goes_on : goal.returns-clause-goes_on
returns-clause-goes_on g c = may_further g.D.Disk c.args.world.now c.fork_into.new.world c.ask.new.world c.fork_into.ensures.goes_on c.ask.ensures.goes_on

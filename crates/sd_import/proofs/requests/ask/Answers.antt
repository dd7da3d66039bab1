use Rattle.sd_import.proofs.ChangeLemmas.{command_changes}
use Rattle.sd_import.proofs.requests.ask.Goals as goal

pub returns-clause-changes : goal.returns-clause-changes
returns-clause-changes g c = command_changes g.D.Disk c.args.space 0 c.args.command c.make-answer.result c.args.world.now c.make-answer.new.self c.requires c.sound.ensures.tracked
    c.make-answer.ensures.step c.make-answer.ensures.goes_on

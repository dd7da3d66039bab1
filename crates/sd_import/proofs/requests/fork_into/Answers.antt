use Rattle.std.proofs.Common.{rules, ◌≡◌, refl, subst}
use Rattle.sd_command.specs.declared.command.Command.TheVariants as command
use Rattle.sd_command.specs.declared.reply.Reply.TheVariants as reply
use Rattle.sd_world.specs.declared.event.Event.TheVariants.{Command as CommandEvent}
use Rattle.sd_world.specs.Runs.{IsStep}
use Rattle.sd_import.proofs.ChangeLemmas.{fork_changes}
use Rattle.sd_import.proofs.requests.fork_into.Goals as goal

pub returns-then-eq-clause-changes : goal.returns-then-eq-clause-changes
returns-then-eq-clause-changes g c =
    let is : c.make-answer.result ≡ reply.Child c.args.space = search rules in
    fork_changes g.D.Disk c.args.space 0 c.args.parent c.args.space c.args.world.now c.make-answer.new.self refl c.sound.ensures.tracked
    (subst (λ answer. IsStep g.D.Disk (CommandEvent 0 (command.Fork c.args.parent)) c.args.world.now answer c.make-answer.new.self) is c.make-answer.ensures.step) c.make-answer.ensures.goes_on

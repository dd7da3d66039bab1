-- No command clears a page.
use Rattle.std.proofs.Common.{arith}
use Rattle.sd_command.specs.declared.command.Command.{Command}
use Rattle.sd_command.specs.declared.reply.Reply.{Reply}
use Rattle.sd_command.specs.Events.{event_of}
use Rattle.sd_rounds.specs.Keeps.{IsCall}

pub no_clear : (asked : Command) (told : Reply) → IsCall (event_of asked told)
no_clear asked told at number = grind arith

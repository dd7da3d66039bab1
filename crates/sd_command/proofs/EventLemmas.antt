-- The event of a command and its reply, and the command's effect.
use Rattle.std.proofs.Common.{◌≡◌, arith}
use Rattle.sd_areas.specs.PlainMemory.{PlainMemory}
use Rattle.sd_pagetable.specs.EventEffects.{after_event}
use Rattle.sd_command.specs.declared.command.Command.{Command}
use Rattle.sd_command.specs.declared.reply.Reply.{Reply}
use Rattle.sd_command.specs.Events.{event_of}
use Rattle.sd_command.specs.Replies.{effect}

pub same_effect : (asked : Command) (answer : Reply) (memory : PlainMemory) → after_event (event_of asked answer) memory ≡ effect asked answer memory
same_effect asked answer memory = grind arith

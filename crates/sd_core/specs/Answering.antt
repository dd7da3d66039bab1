-- Replies to commands.
use Rattle.std.specs.Prelude.{◌≡◌, Bool, true, false}
use Rattle.sd_command.specs.declared.command.Command.{Command}
use Rattle.sd_command.specs.declared.refusal.Refusal.TheVariants.{Frozen}
use Rattle.sd_command.specs.declared.reply.Reply.{Reply}
use Rattle.sd_command.specs.declared.reply.Reply.TheVariants.{Refused}
use Rattle.sd_command.specs.Events.{Chooses, event_of}
use Rattle.sd_command.specs.Replies.{IsLegalReply}
use Rattle.sd_pagetable.specs.Contents.{Contents, plain_of}
use Rattle.sd_pagetable.specs.Tracking.{Step}

-- the reply is legal, and is what the memory's frames and bits leave open; the memory makes the event's step
pub record IsAppliedToMemory (command : Command) (reply : Reply) (old new : Contents) : Type 0 where
  pub legal : IsLegalReply (plain_of old) false command reply
  pub chooses : Chooses old command reply
  pub step : Step old (event_of command reply) new

-- while frozen a command is refused so, and nothing changes
abbrev pub IsAnswered : Bool → Command → Reply → Contents → Contents → Type 0
IsAnswered true command reply old new = (reply ≡ Refused Frozen) × (new ≡ old)
IsAnswered false command reply old new = IsAppliedToMemory command reply old new

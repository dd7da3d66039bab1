-- The checkpoint that runs, from event to event.
use Rattle.std.specs.Prelude.{◌≡◌, ℕ, Option, Some, IfSome}
use Rattle.sd_command.specs.declared.reply.Reply.{Reply}
use Rattle.sd_command.specs.declared.reply.Reply.TheVariants as reply
use Rattle.sd_rounds.specs.Dumper.{Running}
use Rattle.sd_crash_safety.specs.View.{CoreView}
use Rattle.sd_core.specs.Beginning.{Begins}
use Rattle.sd_core.specs.Images.{begun_as}
use Rattle.sd_world.specs.declared.event.Event.{Event}
use Rattle.sd_world.specs.declared.event.Event.TheVariants.{Begin}

-- a checkpoint that runs now ran before, and began as it did
abbrev pub RanBefore : Option Running → Option Running → Type 0
RanBefore old new = IfSome new (λ next. (running : Running) × (old ≡ Some running) × (begun_as next ≡ begun_as running))

-- so it is after an event, unless that is the order that began it
pub data KeepsCheckpoint (event : Event) (answer : Reply) (old new : CoreView) : Type 0 where
  ran : RanBefore old.dumper.running new.dumper.running → KeepsCheckpoint event answer old new
  begun : (rounds n : ℕ) → event ≡ Begin rounds → answer ≡ reply.Begun n → Begins old rounds n new
      → KeepsCheckpoint event answer old new

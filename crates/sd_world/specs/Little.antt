-- Little work, of a world's events.
use Rattle.std.specs.Prelude.{◌≡◌, ◌≢◌, ℕ}
use Rattle.sd_command.specs.declared.reply.Reply.{Reply}
use Rattle.sd_command.specs.declared.reply.Reply.TheVariants as reply
use Rattle.sd_gate.specs.declared.worker.Worker.{Worker}
use Rattle.sd_gate.specs.declared.worker.Worker.TheVariants.{Dumper}
use Rattle.sd_rounds.specs.Dumper.{Running}
use Rattle.sd_core.specs.Images.{IsAcked}
use Rattle.sd_core.specs.LittleWork.{IsLittleDump, IsLittlePreDump, OpensPreDump}
use Rattle.sd_world.specs.declared.event.Event.{Event}
use Rattle.sd_world.specs.declared.event.Event.TheVariants.{Command, Begin, Work, TakeUp, HandInAt, Perform, PerformAt}
use Rattle.sd_world.specs.declared.event.Event.TheVariants.{Merge, Cancel, Reopen, Trim}
use Rattle.sd_world.specs.declared.call_state.CallState.TheVariants as its
use Rattle.sd_world.specs.View.{IsAt, WorldView}

-- What a worker's event makes of a checkpoint, where it hands in the outcome at this place.
pub record WorksLittle {D : Type 0} (worker : Worker) (place : ℕ) (old : WorldView D) (answer : Reply)
    (new : WorldView D) : Type 0 where
  -- what is acknowledged is the checkpoint that ran: its pre-dumps and its dump are in the catalog
  pub acked : (n : ℕ) → answer ≡ reply.Acked n → IsAcked n old.core new.core
  -- and the dump has exactly the pages of the memory at its freeze, each in the right way then
  pub little : (n : ℕ) → answer ≡ reply.Acked n → IsLittleDump n old.core new.core
  -- after the dumper's outcome with which one pre-dump more is open, that has none but the pages that its visits found
  -- touched
  pub round : (lane : ℕ) (running : Running) → worker ≡ Dumper → IsAt old.kept its.Made worker place lane
      → OpensPreDump running old.core new.core → IsLittlePreDump running old.core new.core

-- Events of workers do little work; no other event makes an image.
abbrev pub DoesLittle : {D : Type 0} → Event → WorldView D → Reply → WorldView D → Type 0
DoesLittle (Command seat command) old answer new = Unit {0}
DoesLittle (Begin rounds) old answer new = Unit {0}
DoesLittle (Work worker) old answer new = WorksLittle worker 0 old answer new
DoesLittle (TakeUp worker) old answer new = (n : ℕ) → answer ≢ reply.Acked n
DoesLittle (HandInAt worker place) old answer new = WorksLittle worker place old answer new
DoesLittle (Perform worker) old answer new = Unit {0}
DoesLittle (PerformAt worker place) old answer new = Unit {0}
DoesLittle Merge old answer new = Unit {0}
DoesLittle Cancel old answer new = Unit {0}
DoesLittle Reopen old answer new = Unit {0}
DoesLittle Trim old answer new = Unit {0}

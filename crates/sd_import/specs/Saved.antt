-- What the next checkpoint saves.
use Rattle.std.specs.Prelude.{ℕ, Some}
use Rattle.sd_command.specs.declared.reply.Reply.TheVariants as reply
use Rattle.sd_crash_safety.specs.View.{history_of}
use Rattle.sd_disk.specs.Crash.{Within}
use Rattle.sd_disk.specs.declared.disk.Disk.{Ghosts}
use Rattle.sd_gate.specs.declared.worker.Worker.TheVariants.{Dumper}
use Rattle.sd_image.specs.Shows.{Shows}
use Rattle.sd_pagetable.specs.Contents.{plain_of}
use Rattle.sd_world.specs.declared.event.Event.TheVariants.{Begin}
use Rattle.sd_world.specs.Jobs.{IsJob}
use Rattle.sd_world.specs.Runs.{ShowsReply}
use Rattle.sd_world.specs.View.{WorldView}

-- A checkpoint that is made of a world as it stands, and is acknowledged, saves its memory: the memory at its freeze,
-- which whatever a crash leaves then shows, is this one.
abbrev pub IsSavedNext : {D : Type 0} → Ghosts D → WorldView D → Type 0
IsSavedNext {D} g world =
    (rounds n : ℕ) (acked : WorldView D) → IsJob g (Begin rounds) Dumper world (reply.Acked n) acked
    → (g.is_honest acked.disk
    → Within (g.may_leave acked.disk) (ShowsReply (reply.Acked n) acked.core.base (history_of acked.core)))
    → g.is_honest acked.disk
    → Within (g.may_leave acked.disk) (λ c. Shows c (Some (n, plain_of world.core.memory)))

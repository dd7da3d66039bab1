-- The tickets of the requests that are out.
use Rattle.std.specs.Prelude.{◌≡◌, ℕ, ◌+◌, ◌<◌, ◌^◌, List, length, Some, slice_get}
use Rattle.sd_command.specs.declared.reply.Reply.{Reply}
use Rattle.sd_disk.specs.declared.disk.Disk.{Ghosts}
use Rattle.sd_gate.specs.declared.request_id.RequestId.{RequestId}
use Rattle.sd_crash_safety.specs.View.{CoreView}
use Rattle.sd_world.specs.declared.event.Event.{Event}
use Rattle.sd_world.specs.Runs.{Runs}
use Rattle.sd_world.specs.View.{WorldView}

-- each request that is out has a ticket of its own, which was given before the next one
pub record HasOwnTickets (core : CoreView) : Type 0 where
  pub given : (lane : ℕ) (id : RequestId) → slice_get core.outs lane ≡ Some (Some id) → id.ticket < core.numbers.ticket
  pub own : (one other : ℕ) (first second : RequestId) → slice_get core.outs one ≡ Some (Some first)
      → slice_get core.outs other ≡ Some (Some second)
      → first.ticket ≡ second.ticket → one ≡ other

-- It stays so over a run, as long as a ticket's 64 bits last: each event gives one at most.
abbrev pub TicketsLast : {D : Type 0} → Ghosts D → Type 0
TicketsLast {D} g = (first last : WorldView D) (events : List Event) (answers : List Reply)
    → Runs g first events answers last → HasOwnTickets first.core
    → first.core.numbers.ticket + length events < 2 ^ 64 → HasOwnTickets last.core

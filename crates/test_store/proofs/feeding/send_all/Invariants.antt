use Rattle.std.proofs.Common.{◌≡◌, ◌+◌, ◌<◌, length}
use Rattle.sd_relay.specs.Fronts.{put_into, StaysOnChannel}
use Rattle.test_store.proofs.feeding.send_all.Given as goal

-- the front stays, and so many were put, one for a ticket at most
abbrev pub invariant-loop-ticket : goal.invariant-loop-ticket
invariant-loop-ticket g l =
    StaysOnChannel l.initial.front l.front
    × (length (put_into l.front) ≡ length (put_into l.initial.front) + l.sent)
    × (l.sent < l.ticket)

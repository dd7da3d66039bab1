use Rattle.std.proofs.Common.{◌≡◌}
use Rattle.sd_relay.specs.Fronts.{put_into, StaysOnChannel}
use Rattle.sd_relay.proofs.front.Front.end.Given as goal

-- the front stays, and nothing is put
abbrev pub invariant-loop : goal.invariant-loop
invariant-loop g l = StaysOnChannel l.initial.self l.self × (put_into l.self ≡ put_into l.initial.self)

use Rattle.std.proofs.Common.{◌≡◌}
use Rattle.sd_relay.specs.Fronts.{put_into, StaysOnChannel}
use Rattle.test_store.proofs.feeding.send.Given as goal

-- the front stays, and nothing is put
abbrev pub invariant-loop : goal.invariant-loop
invariant-loop g l = StaysOnChannel l.initial.front l.front × (put_into l.front ≡ put_into l.initial.front)

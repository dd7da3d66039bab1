use Rattle.crossbeam_channel.specs.Claims.{view, IsSeatAt}
use Rattle.crossbeam_channel.specs.Ends.{receives_on}
use Rattle.sd_relay.specs.Hands.{IsWriters}
use Rattle.sd_relay.proofs.crew.serve.Given as goal

-- the pass stays at the channel, and puts nothing
abbrev pub invariant-loop : goal.invariant-loop
invariant-loop g l = IsSeatAt (receives_on l.receiver) l.pass × IsWriters (view l.pass)

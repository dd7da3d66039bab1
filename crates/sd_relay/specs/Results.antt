-- What was done in a relay that is over.
use Rattle.std.specs.Prelude.{ℕ, List}
use Rattle.crossbeam_channel.specs.Claims.{view}
use Rattle.sd_relay.specs.declared.relayed.Relayed.{Relayed}

-- the tickets that were put, in order
abbrev pub put_in : Relayed → List ℕ
put_in relayed = (view relayed.pass).put

-- the tickets that the writers took
abbrev pub taken_in : Relayed → List ℕ
taken_in relayed = (view relayed.pass).taken

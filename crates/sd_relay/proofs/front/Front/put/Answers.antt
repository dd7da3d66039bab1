use Rattle.std.proofs.Common.{rules}
use Rattle.sd_relay.proofs.RuleLemmas.{puts}
use Rattle.sd_relay.proofs.TicketLemmas.{rises_more}
use Rattle.sd_relay.proofs.front.Front.put.Goals as goal

pub try_send_as-requires-clause-rule : goal.try_send_as-requires-clause-rule
try_send_as-requires-clause-rule g c = (puts _ _ _ _ c.args.self.now.puts (λ rises. rises_more _ _ rises (search rules)), λ messages views rule at. tt)

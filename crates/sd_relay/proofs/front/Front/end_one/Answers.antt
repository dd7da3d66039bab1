use Rattle.std.proofs.Common.{subst, sym, append-nil}
use Rattle.sd_relay.specs.Tickets.{TicketsRise}
use Rattle.sd_relay.proofs.RuleLemmas.{puts}
use Rattle.sd_relay.proofs.front.Front.end_one.Goals as goal

pub send_as-requires-clause-rule : goal.send_as-requires-clause-rule
send_as-requires-clause-rule g c = (puts _ _ _ _ c.args.self.now.puts (λ rises. subst TicketsRise (sym (append-nil _)) rises), λ messages views rule at. tt)

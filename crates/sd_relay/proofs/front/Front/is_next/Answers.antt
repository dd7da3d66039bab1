use Rattle.std.proofs.Common.{subst}
use Rattle.std.proofs.lemmas.Bool.{ltb-true}
use Rattle.sd_relay.specs.Tickets.{IsLast}
use Rattle.sd_relay.proofs.TicketLemmas.{above_last}
use Rattle.sd_relay.proofs.front.Front.is_next.Goals as goal

pub returns-in-Some : goal.returns-in-Some
returns-in-Some c = λ above.
    above_last _ _ _ (subst (λ last. IsLast last c.args.self.now.pass.me.0.client.put) c.in-Some.is c.args.self.now.highest) (ltb-true _ _ above)

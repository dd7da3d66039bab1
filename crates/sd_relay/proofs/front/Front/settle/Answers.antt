use Rattle.std.proofs.Common.{subst, sym}
use Rattle.sd_relay.specs.Hands.{tickets}
use Rattle.sd_relay.specs.Relays.{IsSettled}
use Rattle.sd_relay.proofs.RuleLemmas.{learns}
use Rattle.sd_relay.proofs.front.Front.settle.Goals as goal

pub learn_as-requires-clause-rule : goal.learn_as-requires-clause-rule
learn_as-requires-clause-rule c = learns _ _ c.requires c.args.self.puts

pub returns-clause-settled : goal.returns-clause-settled
returns-clause-settled c =
    let learned = c.learn_as.ensures.rule in
    let left = tickets learned.0 in (left, subst (λ v. IsSettled v.put v.taken left) (sym c.learn_as.ensures.channel.2) learned.1)

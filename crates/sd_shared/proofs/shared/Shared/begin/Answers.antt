use Rattle.sd_shared.proofs.TurnLemmas.{number_of}
use Rattle.sd_shared.proofs.shared.Shared.begin.Goals as goal

pub returns : goal.returns
returns g c = record {
  turn = (
    _,
    _,
    c.deref_mut.result.now.jobs,
    c.order-reply.ensures.turn,
    (λ going. let is = c.order-reply.ensures.number going in number_of _ _ c.args.worker _ is.0 is.1),
  );
}

use Rattle.std.proofs.Common.{subst}
use Rattle.sd_gate.specs.Requests.{Asked}
use Rattle.sd_shared.specs.Turns.{IsAnsweredCall}
use Rattle.sd_shared.proofs.TurnLemmas.{refused_of}
use Rattle.sd_shared.proofs.crew.CrewWriter.write.Goals as goal

pub take-requires : goal.take-requires
take-requires g c = refused_of _ _ _ c.call-reply.ensures

pub returns : goal.returns
returns g c =
    record { called = (c.call-reply.result, subst (λ (r : Asked). IsAnsweredCall g.D.Disk.contents r.id c.call-reply.result) c.new.ensures c.call-reply.ensures) }

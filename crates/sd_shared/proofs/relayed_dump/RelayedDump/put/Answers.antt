use Rattle.std.proofs.Common.{ap, subst}
use Rattle.sd_gate.specs.Requests.{Asked}
use Rattle.sd_shared.specs.Turns.{IsAnsweredCall}
use Rattle.sd_shared.proofs.relayed_dump.RelayedDump.put.Goals as goal

pub returns-in-Some-clause-called : goal.returns-in-Some-clause-called
returns-in-Some-clause-called g c = λ over.
    subst (λ (request : Asked). IsAnsweredCall g.D.Disk.contents request.id c.call.result) c.in-Some.ensures.back c.call.ensures

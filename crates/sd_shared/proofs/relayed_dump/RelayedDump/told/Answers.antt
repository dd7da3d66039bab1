use Rattle.std.proofs.Common.{ap, subst, sym}
use Rattle.sd_core.specs.declared.taken.Taken.{Taken}
use Rattle.sd_shared.specs.Turns.{IsAnsweredBy, taken_of}
use Rattle.sd_shared.proofs.relayed_dump.RelayedDump.told.Goals as goal

pub returns-in-Step-clause-told : goal.returns-in-Step-clause-told
returns-in-Step-clause-told g c = λ over.
    subst (λ (taken : Taken). IsAnsweredBy g.D.Disk.contents taken c.awaited.result) (sym (ap taken_of c.in-Step.is)) (c.awaited.ensures over)

pub returns-in-PageWrite-clause-told : goal.returns-in-PageWrite-clause-told
returns-in-PageWrite-clause-told g c = λ over.
    subst (λ (taken : Taken). IsAnsweredBy g.D.Disk.contents taken c.put.result) (sym (ap taken_of c.in-PageWrite.is)) (c.put.ensures.called over)

pub returns-in-Call-clause-told : goal.returns-in-Call-clause-told
returns-in-Call-clause-told g c = λ over.
    subst (λ (taken : Taken). IsAnsweredBy g.D.Disk.contents taken c.call.result) (sym (ap taken_of c.in-Call.is)) c.call.ensures

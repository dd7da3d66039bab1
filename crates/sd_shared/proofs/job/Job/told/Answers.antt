use Rattle.std.proofs.Common.{ap, refl, subst, sym}
use Rattle.sd_core.specs.declared.taken.Taken.{Taken}
use Rattle.sd_shared.specs.Turns.{IsAnsweredBy, taken_of}
use Rattle.sd_shared.proofs.job.Job.told.Goals as goal

pub returns-in-Step-clause-told : goal.returns-in-Step-clause-told
returns-in-Step-clause-told g c = subst (λ (taken : Taken). IsAnsweredBy g.D.Disk.contents taken c.in-Step.reply) (sym (ap taken_of c.in-Step.is)) refl

pub returns-in-PageWrite-clause-told : goal.returns-in-PageWrite-clause-told
returns-in-PageWrite-clause-told g c =
    subst (λ (taken : Taken). IsAnsweredBy g.D.Disk.contents taken c.call.result) (sym (ap taken_of c.in-PageWrite.is)) c.call.ensures.called

pub returns-in-Call-clause-told : goal.returns-in-Call-clause-told
returns-in-Call-clause-told g c =
    subst (λ (taken : Taken). IsAnsweredBy g.D.Disk.contents taken c.call-in-Call.result) (sym (ap taken_of c.in-Call.is)) c.call-in-Call.ensures.called

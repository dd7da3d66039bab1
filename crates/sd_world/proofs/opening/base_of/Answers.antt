use Rattle.std.proofs.Common.{◌⊎◌, subst}
use Rattle.sd_restore.specs.Faulty.{FaultNames, IsBrokenChain, IsDamage}
use Rattle.sd_world.proofs.opening.base_of.Goals as goal

pub returns-in-Err-Damaged-clause-fault : goal.returns-in-Err-Damaged-clause-fault
returns-in-Err-Damaged-clause-fault g c = λ honest.
    let contents = g.D.Disk.contents c.args.disk.now in
    subst (FaultNames (λ slot reason. IsDamage contents slot reason ⊎ IsBrokenChain contents slot reason)) c.in-Err-Damaged.field-0-is
    (c.in-Err-Damaged.ensures.damaged honest)

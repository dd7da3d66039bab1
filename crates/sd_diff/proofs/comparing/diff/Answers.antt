use Rattle.std.proofs.Common.{◌≡◌, ◌⊎◌, ℕ, List, ap, sym, subst}
use Rattle.std.specs.Prelude.{Err}
use Rattle.sd_restore.specs.declared.fault.Fault.TheVariants as fault
use Rattle.sd_restore.specs.At.{IsBrokenAt, LacksAt}
use Rattle.sd_restore.specs.Faulty.{IsDamage}
use Rattle.sd_diff.specs.Faults.{Names}
use Rattle.sd_diff.proofs.FaultLemmas.{damage_named}
use Rattle.sd_diff.proofs.comparing.diff.Goals as goal

pub returns-in-Err-clause-named : goal.returns-in-Err-clause-named
returns-in-Err-clause-named g c = λ honest.
    let contents : List (List ℕ) = g.D.Disk.contents c.args.disk.now in
    let old = c.args.old in
    let new = c.args.new in
    subst (Names (λ number. ((number ≡ old) ⊎ (number ≡ new)) × LacksAt contents number)
    (λ slot reason. IsDamage contents slot reason ⊎ (IsBrokenAt contents old slot reason ⊎ IsBrokenAt contents new slot reason))) (sym c.at.ensures)
    (damage_named (λ number. ((number ≡ old) ⊎ (number ≡ new)) × LacksAt contents number) (IsDamage contents)
    (λ slot reason. IsBrokenAt contents old slot reason ⊎ IsBrokenAt contents new slot reason) old c.in-Err.fault
    (λ (e : c.in-Err.fault ≡ fault.EmptyChain). c.in-Err.ensures.empty (ap Err e)) (c.in-Err.ensures.damaged honest))

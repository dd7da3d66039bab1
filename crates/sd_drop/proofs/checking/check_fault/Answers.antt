use Rattle.std.proofs.Common.{ℕ, List, subst, sym}
use Rattle.sd_drop.specs.Errors.{ErrorSays}
use Rattle.sd_drop.specs.Needed.{IsDamagedBeside, IsNeeded}
use Rattle.sd_drop.proofs.NeedLemmas.{other_says}
use Rattle.sd_drop.proofs.checking.check_fault.Goals as goal

pub returns-clause-says : goal.returns-clause-says
returns-clause-says g c = λ honest.
    let contents : List (List ℕ) = g.D.Disk.contents c.args.disk.now in
    subst (ErrorSays ⊥ (IsNeeded contents c.args.slot) (IsDamagedBeside contents c.args.slot)) (sym c.of.ensures)
    (other_says contents c.args.slot c.args.fault c.requires.empty (c.is_of_slot.ensures.no c.if-is_of_slot.false) (c.requires.damage honest))

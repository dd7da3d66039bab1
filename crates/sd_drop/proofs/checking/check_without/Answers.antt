use Rattle.std.proofs.Common.{◌≡◌, ℕ, List, Err, ap, subst, sym}
use Rattle.sd_chain.specs.Store.{IsCatalogOf}
use Rattle.sd_restore.specs.declared.fault.Fault.TheVariants as fault
use Rattle.sd_drop.specs.Closing.{closed_at}
use Rattle.sd_drop.specs.Errors.{ErrorSays}
use Rattle.sd_drop.specs.Needed.{IsDamagedBeside, IsNeeded}
use Rattle.sd_drop.proofs.NeedLemmas.{beside_says, unneeded_without, without_says}
use Rattle.sd_drop.proofs.checking.check_without.Goals as goal

pub returns-in-Err-clause-says : goal.returns-in-Err-clause-says
returns-in-Err-clause-says g c = λ honest.
    let contents : List (List ℕ) = g.D.Disk.contents c.args.disk.now in
    subst (ErrorSays ⊥ (IsNeeded contents c.args.slot) (IsDamagedBeside contents c.args.slot)) (sym c.of.ensures)
    (beside_says contents c.args.slot c.in-Err.fault (λ (e : c.in-Err.fault ≡ fault.EmptyChain). c.in-Err.ensures.empty (ap Err e)) (c.in-Err.ensures.damaged honest))

pub returns-in-Ok-place_newest-clause-unneeded : goal.returns-in-Ok-place_newest-clause-unneeded
returns-in-Ok-place_newest-clause-unneeded g c = λ honest.
    let contents : List (List ℕ) = g.D.Disk.contents c.args.disk.now in
    let damage = c.requires.damage (c.in-Ok.ensures.reads.honest honest) in
    unneeded_without contents c.args.slot damage.0 _ damage.1
    (c.in-Ok-place_newest.ensures.shown (closed_at contents c.args.slot) (c.in-Ok.ensures.catalog honest))

pub returns-clause-says : goal.returns-clause-says
returns-clause-says g c = λ honest.
    let contents : List (List ℕ) = g.D.Disk.contents c.args.disk.now in
    let closed : List (List ℕ) = closed_at contents c.args.slot in
    let damage = c.requires.damage (c.in-Ok.ensures.reads.honest honest) in
    let of : IsCatalogOf closed c.in-Ok.catalog = c.in-Ok.ensures.catalog honest in
    subst (ErrorSays ⊥ (IsNeeded contents c.args.slot) (IsDamagedBeside contents c.args.slot)) (sym c.without.ensures)
    (without_says contents c.args.slot damage.0 c.in-Err-place_newest.fault damage.1 (c.in-Err-place_newest.ensures.empty closed of)
    (λ shown shows. c.in-Err-place_newest.ensures.good closed shown of shows))

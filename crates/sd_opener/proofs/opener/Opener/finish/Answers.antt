use Rattle.std.proofs.Common.{◌≡◌, ◌≢◌, length, map, take, Result, Ok, Err, IfErr, None, sym, ◌∙◌, ap, subst}
use Rattle.std.proofs.Math.Seq.{take-length}
use Rattle.sd_gate.specs.Laws.{found_phase}
use Rattle.sd_restore.specs.declared.fault.Fault.{Fault}
use Rattle.sd_restore.specs.declared.fault.Fault.TheVariants.{EmptyChain, Damaged, Device, OutOfMemory}
use Rattle.sd_restore.specs.Faulty.{FaultNames}
use Rattle.sd_restore.specs.Reading.{AreRightlyDigested}
use Rattle.sd_restore.specs.Scanned.{IsScanned}
use Rattle.sd_opener.specs.Looking.{Looking}
use Rattle.sd_opener.specs.Sees.{IsNoStore, Sees}
use Rattle.sd_opener.proofs.opener.Opener.finish.Goals as goal

pub returns-clause-opened : goal.returns-clause-opened
returns-clause-opened c files sees long right =
    let was = subst (Sees files None) (sym c.self.view_is) sees in
    let all : length c.self.inside.told.items ≡ length files = ap (λ (v : Looking). length v.told) c.self.view_is ∙ long in
    let scanned : IsScanned files (length files) c.self.inside.scanned = subst (λ k. IsScanned files k c.self.inside.scanned) all (was.scanned right) in
    let found = c.in_ok-check.ensures.store files scanned in
    record {
      catalog = c.in_ok-check.ensures.catalog files scanned;
      phases = was.told ∙ ap (λ k. map found_phase (take k files)) all ∙ ap (map found_phase) (take-length files);
      images = found.0;
      store = found.1;
    }

always : {A B : Type 0} {P : Type 0} (r : Result A B) → P → IfErr r (λ _. P)
always (Ok x) p = tt
always (Err e) p = p

-- a fault that names no slot is one of the others
none_is : (r : Result (Unit {0}) Fault) (f : Fault) → r ≡ Err f → r ≢ Err EmptyChain → r ≢ Err Device → r ≢ Err OutOfMemory → FaultNames (λ _ _. ⊥) f → ⊥
none_is r EmptyChain is empty device memory named = empty is
none_is r (Damaged slot reason) is empty device memory named = named
none_is r Device is empty device memory named = device is
none_is r OutOfMemory is empty device memory named = memory is

pub returns-in_err-check-clause-damaged : goal.returns-in_err-check-clause-damaged
returns-in_err-check-clause-damaged c files sees long = always c.from_residual.result none
  where
    none : IsNoStore files
    none images store =
        let was = subst (Sees files None) (sym c.self.view_is) sees in
        let all : length c.self.inside.told.items ≡ length files = ap (λ (v : Looking). length v.told) c.self.view_is ∙ long in
        let right : AreRightlyDigested files = c.store_is_rightly_digested.ensures files images store.slots in
        let scanned : IsScanned files (length files) c.self.inside.scanned = subst (λ k. IsScanned files k c.self.inside.scanned) all (was.scanned right) in
        none_is c.check.result c.in_err-check.field-0.0 c.in_err-check.was c.check.ensures.empty c.check.ensures.device c.check.ensures.memory
        (c.in_err-check.ensures.good files images scanned store)

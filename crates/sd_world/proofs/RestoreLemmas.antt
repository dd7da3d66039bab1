-- What is restored is what is shown.
use Rattle.std.proofs.Common.{ℕ, List, Some, None, Result, Ok, Err, IfOk, IfErr, IsErrOf, refl}
use Rattle.sd_areas.specs.declared.snapshot.Snapshot.{Snapshot}
use Rattle.sd_areas.specs.Memory.{memory_of}
use Rattle.sd_image.specs.Laws.{ShownOnce}
use Rattle.sd_image.specs.Shows.{Shows}
use Rattle.sd_journal.specs.Allowed.{Shown}
use Rattle.sd_journal.specs.History.{Base, History}
use Rattle.sd_restore.specs.declared.fault.Fault.{Fault}
use Rattle.sd_restore.specs.declared.fault.Fault.TheVariants.{EmptyChain, Damaged}
use Rattle.sd_restore.specs.Faulty.{FaultNames}
use Rattle.sd_crash_safety.specs.Shown.{ShowsAllowed}
use Rattle.sd_world.specs.Restored.{IsRestored, IsRestoredAs}

pub restored_as : ShownOnce → (contents : List (List ℕ)) (shown : Shown) (result : Result Snapshot Fault) → Shows contents shown
    → IfOk result (λ snapshot. Shows contents (Some (snapshot.checkpoint, memory_of snapshot)))
    → (IsErrOf result EmptyChain → Shows contents None) → IfErr result (FaultNames (λ slot reason. ⊥)) → IsRestoredAs shown result
restored_as once contents shown (Ok snapshot) shows ok none good = once contents shown (Some (snapshot.checkpoint, memory_of snapshot)) shows ok
restored_as once contents shown (Err EmptyChain) shows ok none good = once contents shown None shows (none refl)
restored_as once contents shown (Err (Damaged slot reason)) shows ok none good = good
restored_as once contents shown (Err _) shows ok none good = tt

pub is_restored : ShownOnce → (contents : List (List ℕ)) (base : Base) (history : History) (result : Result Snapshot Fault)
    → IfOk result (λ snapshot. Shows contents (Some (snapshot.checkpoint, memory_of snapshot)))
    → (IsErrOf result EmptyChain → Shows contents None)
    → ((shown : Shown) → Shows contents shown → IfErr result (FaultNames (λ slot reason. ⊥)))
    → ShowsAllowed base history contents → IsRestored base history result
is_restored once contents base history result ok none good allowed = record {
  shown = allowed.shown;
  allowed = allowed.allowed;
  is = restored_as once contents allowed.shown result allowed.shows ok none (good allowed.shown allowed.shows);
}

-- What a fault of reading a checkpoint names.
use Rattle.std.proofs.Common.{◌≢◌, ◌⊎◌, ℕ, refl, inl}
use Rattle.sd_image.specs.declared.reason.Reason.{Reason}
use Rattle.sd_restore.specs.declared.fault.Fault.{Fault}
use Rattle.sd_restore.specs.declared.fault.Fault.TheVariants.{EmptyChain, Damaged, Device, OutOfMemory}
use Rattle.sd_restore.specs.Faulty.{FaultNames}
use Rattle.sd_diff.specs.Faults.{Names, fault_at}

-- where it names nothing, it still does as a fault of a difference
pub never_named : (number : ℕ) (fault : Fault) → fault ≢ EmptyChain → FaultNames (λ _ _. ⊥) fault → Names (λ _. ⊥) (λ _ _. ⊥) (fault_at number fault)
never_named number EmptyChain some none = absurd (some refl)
never_named number (Damaged slot reason) some none = none
never_named number Device some none = tt
never_named number OutOfMemory some none = tt

-- what it says of a slot is so there
pub damage_named : (Lacks : ℕ → Type 0) (P Q : ℕ → Reason → Type 0) (number : ℕ) (fault : Fault) → fault ≢ EmptyChain → FaultNames P fault
    → Names Lacks (λ slot reason. P slot reason ⊎ Q slot reason) (fault_at number fault)
damage_named Lacks P Q number EmptyChain some names = absurd (some refl)
damage_named Lacks P Q number (Damaged slot reason) some names = inl names
damage_named Lacks P Q number Device some names = tt
damage_named Lacks P Q number OutOfMemory some names = tt

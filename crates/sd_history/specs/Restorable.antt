-- The checkpoints to which contents can go back.
use Rattle.std.specs.Prelude.{◌≡◌, ◌⊎◌, ℕ, ◌↔◌, List, Contains}
use Rattle.sd_areas.specs.PlainMemory.{PlainMemory}
use Rattle.sd_restore.specs.declared.fault.Fault.{Fault}
use Rattle.sd_restore.specs.declared.fault.Fault.TheVariants.{EmptyChain}
use Rattle.sd_restore.specs.At.{ShowsAt}
use Rattle.sd_restore.specs.Faulty.{FaultNames}

-- contents have a memory at a checkpoint
abbrev pub GoesBackTo : List (List ℕ) → ℕ → Type 0
GoesBackTo contents number = (memory : PlainMemory) × ShowsAt contents number memory

-- these are the checkpoints at which contents have a memory
abbrev pub AreRestorable : List (List ℕ) → List ℕ → Type 0
AreRestorable contents numbers = (number : ℕ) → Contains numbers number ↔ GoesBackTo contents number

-- a fault is one of the store: its image isn't there, or it is damaged
abbrev pub IsOfStore : Fault → Type 0
IsOfStore fault = (fault ≡ EmptyChain) ⊎ (FaultNames (λ _ _. ⊥) fault → ⊥)

-- a checkpoint is put to the others where contents have a memory there
abbrev pub KeepsOne : List (List ℕ) → ℕ → List ℕ → List ℕ → Type 0
KeepsOne contents number old new =
    (n : ℕ) → Contains new n ↔ (Contains old n ⊎ ((n ≡ number) × GoesBackTo contents n))

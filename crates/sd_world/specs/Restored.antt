-- What is restored of contents that show what a journal allows.
use Rattle.std.specs.Prelude.{◌≡◌, Some, None, Result, Ok, Err}
use Rattle.sd_areas.specs.declared.snapshot.Snapshot.{Snapshot}
use Rattle.sd_areas.specs.Memory.{memory_of}
use Rattle.sd_journal.specs.Allowed.{IsAllowed, Shown}
use Rattle.sd_journal.specs.History.{Base, History}
use Rattle.sd_restore.specs.declared.fault.Fault.{Fault}
use Rattle.sd_restore.specs.declared.fault.Fault.TheVariants.{EmptyChain, Damaged, Device, OutOfMemory}

-- exactly this checkpoint and memory, or the empty chain where nothing was saved; a call of the device that failed, and
-- lack of memory, say nothing of it
abbrev pub IsRestoredAs : Shown → Result Snapshot Fault → Type 0
IsRestoredAs shown (Ok snapshot) = shown ≡ Some (snapshot.checkpoint, memory_of snapshot)
IsRestoredAs shown (Err EmptyChain) = shown ≡ None
IsRestoredAs shown (Err (Damaged slot reason)) = ⊥
IsRestoredAs shown (Err Device) = Unit {0}
IsRestoredAs shown (Err OutOfMemory) = Unit {0}

-- exactly a pair that the journal allows
pub record IsRestored (base : Base) (history : History) (result : Result Snapshot Fault) : Type 0 where
  pub shown : Shown
  pub allowed : IsAllowed base history shown
  pub is : IsRestoredAs shown result

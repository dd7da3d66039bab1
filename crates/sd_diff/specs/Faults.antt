-- Why there is no difference.
use Rattle.std.specs.Prelude.{ℕ}
use Rattle.sd_image.specs.declared.reason.Reason.{Reason}
use Rattle.sd_restore.specs.declared.fault.Fault.{Fault}
use Rattle.sd_restore.specs.declared.fault.Fault.TheVariants as fault
use Rattle.sd_diff.specs.declared.diff_fault.DiffFault.{DiffFault}
use Rattle.sd_diff.specs.declared.diff_fault.DiffFault.TheVariants.{NoCheckpoint, Damaged, Device, OutOfMemory}

-- what a fault says of the checkpoint, or of the slot and the reason, that it names
abbrev pub Names : (ℕ → Type 0) → (ℕ → Reason → Type 0) → DiffFault → Type 0
Names Lacks Breaks (NoCheckpoint number) = Lacks number
Names Lacks Breaks (Damaged slot reason) = Breaks slot reason
Names Lacks Breaks Device = Unit {0}
Names Lacks Breaks OutOfMemory = Unit {0}

-- what a fault of reading a checkpoint is
abbrev pub fault_at : ℕ → Fault → DiffFault
fault_at number fault.EmptyChain = NoCheckpoint number
fault_at number (fault.Damaged slot reason) = Damaged slot reason
fault_at number fault.Device = Device
fault_at number fault.OutOfMemory = OutOfMemory

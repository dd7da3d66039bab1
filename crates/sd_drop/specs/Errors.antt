-- Why an image isn't closed.
use Rattle.std.specs.Prelude.{ℕ}
use Rattle.sd_image.specs.declared.reason.Reason.{Reason}
use Rattle.sd_restore.specs.declared.fault.Fault.{Fault}
use Rattle.sd_restore.specs.declared.fault.Fault.TheVariants as fault
use Rattle.sd_drop.specs.declared.drop_error.DropError.{DropError}
use Rattle.sd_drop.specs.declared.drop_error.DropError.TheVariants.{Closed, Needed, Damaged, Device, OutOfMemory}

-- what an error says: that the slot is closed, that its image is needed, or that a slot is damaged for a reason
abbrev pub ErrorSays : Type 0 → Type 0 → (ℕ → Reason → Type 0) → DropError → Type 0
ErrorSays IsClosed IsNeeded IsDamaged Closed = IsClosed
ErrorSays IsClosed IsNeeded IsDamaged Needed = IsNeeded
ErrorSays IsClosed IsNeeded IsDamaged (Damaged slot reason) = IsDamaged slot reason
ErrorSays IsClosed IsNeeded IsDamaged Device = Unit {0}
ErrorSays IsClosed IsNeeded IsDamaged OutOfMemory = Unit {0}

-- what a fault of reading all slots is
abbrev pub error_of : Fault → DropError
error_of fault.EmptyChain = Needed
error_of (fault.Damaged slot reason) = Damaged slot reason
error_of fault.Device = Device
error_of fault.OutOfMemory = OutOfMemory

-- what a fault of looking for a memory without the image is
abbrev pub error_without : Fault → DropError
error_without fault.EmptyChain = Needed
error_without (fault.Damaged slot reason) = Needed
error_without fault.Device = Device
error_without fault.OutOfMemory = OutOfMemory

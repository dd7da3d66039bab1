-- Whether a run may have disturbed a reading.
use Rattle.std.specs.Prelude.{Bool, true, false, Option, Some}
use Rattle.sd_restore.specs.declared.fault.Fault.{Fault}
use Rattle.sd_restore.specs.declared.fault.Fault.TheVariants.{Damaged, Device}

-- another reading may answer otherwise: a call failed, or an image was damaged
abbrev pub can_change : Option Fault → Bool
can_change (Some Device) = true
can_change (Some (Damaged _ _)) = true
can_change _ = false

-- Why the folder of a store isn't opened.
use Rattle.sd_exit.specs.declared.stop.Stop.{Stop}
use Rattle.sd_exit.specs.declared.stop.Stop.TheVariants as stop
use Rattle.sd_restore.specs.declared.fault.Fault.TheVariants.{OutOfMemory}

-- the system refused it, or memory ran out
abbrev pub IsUnopened : Stop → Type 0
IsUnopened stop.CannotOpenFolder = Unit {0}
IsUnopened (stop.Fault OutOfMemory) = Unit {0}
IsUnopened _ = ⊥

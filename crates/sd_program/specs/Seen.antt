-- The disk of a program whose calls are seen.
use Rattle.sd_disk.specs.declared.dir_disk.DirDisk.{DirDisk}
use Rattle.sd_disk.specs.declared.observed.Observed.{Observed}

-- the disk of a folder within one whose calls are seen
abbrev pub within : {O P : Type 0} → Observed O (Observed P DirDisk) → DirDisk
within seen = seen.disk.disk

use Rattle.std.proofs.Common.{[], map}
use Rattle.sd_disk.specs.Slots.{held}
use Rattle.sd_disk.proofs.mem_disk.MemDisk.settled.Given as goal

-- the files are those that it begins with
abbrev pub ghost-new : goal.ghost-new
ghost-new a = record { found = map held a.slots.now; left = [] }

-- of the questions and reads only their number is needed
abbrev pub ghost-new-2 : goal.ghost-new-2
ghost-new-2 a = record { found = []; left = [] }

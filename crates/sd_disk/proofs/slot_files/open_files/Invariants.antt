use Rattle.std.proofs.Common.{◌≡◌, length}
use Rattle.sd_disk.proofs.slot_files.open_files.Given as goal

abbrev pub invariant-loop-slot : goal.invariant-loop-slot
invariant-loop-slot g l = length l.images.items ≡ l.slot

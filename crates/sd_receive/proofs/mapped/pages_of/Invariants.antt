use Rattle.std.proofs.Common.{◌≡◌, take}
use Rattle.sd_restore.specs.Placed.{placed_pages}
use Rattle.sd_receive.specs.Merged.{pages_seen}
use Rattle.sd_receive.proofs.mapped.pages_of.Given as goal

-- those of the runs so far
abbrev pub invariant-loop-run : goal.invariant-loop-run
invariant-loop-run l = pages_seen l.pages.items ≡ placed_pages (take l.run-index l.runs)

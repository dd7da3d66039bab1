use Rattle.std.proofs.Common.{◌≤◌, ◌-◌}
use Rattle.sd_elf.specs.Pieces.{ArePieces}
use Rattle.sd_elf.proofs.differences.pieces_of.Given as goal

-- the pieces so far have what differs below the next byte
abbrev pub invariant-loop-piece : goal.invariant-loop-piece
invariant-loop-piece l = record {
  within : l.from ≤ 4096;
  pieces : ArePieces l.old l.new l.from l.pieces.items;
}

abbrev pub decreases-loop-piece : goal.decreases-loop-piece
decreases-loop-piece l = 4096 - l.from

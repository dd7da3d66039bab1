use Rattle.std.proofs.Common.{◌≡◌}
use Rattle.sd_image.specs.Table.{mapped_count}
use Rattle.sd_pagetable.specs.Contents.{plain_of}
use Rattle.sd_pagetable.specs.Law.{pages_below}
use Rattle.sd_rounds.specs.SpaceTables.{AreSpacesBelow}
use Rattle.sd_writing.specs.Tables.{listed}
use Rattle.sd_rounds.proofs.tables.dump_table.Given as goal

-- the spaces below this number were added
abbrev pub invariant-loop-number : goal.invariant-loop-number
invariant-loop-number l = record {
  below : AreSpacesBelow l.number (plain_of l.memory) (listed l.tables) (listed l.spaces.items);
  count : mapped_count (listed l.spaces.items) ≡ pages_below l.memory.spaces l.number;
}

use Rattle.std.proofs.Common.{◌≡◌, map, take}
use Rattle.sd_rounds.specs.SpaceTables.{without_areas}
use Rattle.sd_writing.specs.Tables.{listed}
use Rattle.sd_rounds.proofs.tables.pre_dump_table.Given as goal

-- the tables that came so far were copied
abbrev pub invariant-loop-table : goal.invariant-loop-table
invariant-loop-table l = listed l.spaces.items ≡ map without_areas (listed (take l.table-index l.tables))

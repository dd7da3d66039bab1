use Rattle.std.proofs.Common.{◌≡◌, drop}
use Rattle.sd_rounds.specs.SpaceTables.{space_runs}
use Rattle.sd_writing.specs.Tables.{listed}
use Rattle.sd_rounds.proofs.tables.runs_in.Given as goal

-- none of the tables that came so far has the space
abbrev pub invariant-loop-table : goal.invariant-loop-table
invariant-loop-table l = space_runs (listed l.tables) l.space ≡ space_runs (listed (drop l.table-index l.tables)) l.space

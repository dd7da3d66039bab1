use Rattle.std.proofs.Common.{◌≡◌, ◌++◌, drop}
use Rattle.sd_writing.specs.Tables.{listed}
use Rattle.sd_merge.specs.Gathered.{tables_of}
use Rattle.sd_merge.proofs.gathered.gathered_table.Given as goal

-- the tables so far and those of what is left are all
abbrev pub invariant-loop-listed : goal.invariant-loop-listed
invariant-loop-listed l =
    listed l.tables.items ++ tables_of (listed (drop l.listed-index l.fn.source.spaces.items)) (listed l.left)
    ≡ tables_of (listed l.fn.source.spaces.items) (listed l.fn.spaces)

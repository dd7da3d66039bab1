use Rattle.std.proofs.Common.{arith}
use Rattle.sd_rounds.proofs.SpaceTableLemmas.{dead_high, none_below_one, none_counted}
use Rattle.sd_rounds.proofs.tables.dump_table.Goals as goal

pub loop-number-init : goal.loop-number-init
loop-number-init c = grind (arith, none_below_one, none_counted)

pub returns : goal.returns
returns c = grind (arith, dead_high)

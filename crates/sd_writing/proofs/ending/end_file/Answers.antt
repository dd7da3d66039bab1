use Rattle.std.proofs.Common.{arith}
use Rattle.sd_writing.proofs.EntryLemmas.{table_is_long}
use Rattle.sd_writing.proofs.ending.end_file.Goals as goal

pub returns : goal.returns
returns c = grind (arith, table_is_long)

use Rattle.std.proofs.Common.{arith}
use Rattle.sd_rounds.proofs.ImageTableLemmas.{dump_for, is_other, pre_dump_for}
use Rattle.sd_rounds.proofs.image_maker.ImageMaker.table.Goals as goal

pub returns-in-PreDump : goal.returns-in-PreDump
returns-in-PreDump c = grind (arith, pre_dump_for)

pub returns-in-Dump : goal.returns-in-Dump
returns-in-Dump c = grind (arith, dump_for, is_other)

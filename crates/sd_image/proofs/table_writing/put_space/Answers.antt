use Rattle.std.proofs.Common.{arith}
use Rattle.sd_image.proofs.Written.{five_parts, written_as}
use Rattle.sd_image.proofs.table_writing.put_space.Goals as goal

pub returns : goal.returns
returns c = grind (arith, written_as, five_parts)

use Rattle.std.proofs.Common.{arith}
use Rattle.sd_rounds.proofs.WaitLemmas.{all_written}
use Rattle.sd_rounds.proofs.image_maker.ImageMaker.work.Goals as goal

pub close-requires-clause-rests : goal.close-requires-clause-rests
close-requires-clause-rests c = grind (arith, all_written)

use Rattle.std.proofs.Common.{arith}
use Rattle.sd_rounds.proofs.PageCopyLemmas.{none_in_front}
use Rattle.sd_rounds.proofs.page_copy.PageCopy.into_buffer.Goals as goal

pub returns : goal.returns
returns c = grind (arith, none_in_front)

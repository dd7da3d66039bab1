use Rattle.sd_stream.proofs.LawLemmas.{streams_apart}
use Rattle.sd_stream.proofs.laws.one_stream.Goals as goal

pub returns : goal.returns
returns c = streams_apart

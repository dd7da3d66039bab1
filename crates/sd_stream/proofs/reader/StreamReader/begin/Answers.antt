use Rattle.sd_stream.proofs.HeadLemmas.{head_taken}
use Rattle.sd_stream.proofs.reader.StreamReader.begin.Goals as goal

pub returns-clause-begun : goal.returns-clause-begun
returns-clause-begun g c = (
  c.in_ok-base.ensures.base,
  head_taken g.R.Read.remaining (g.R.Read.remaining c.args.input) _ c.in_ok-base.ensures.text (c.new-tally.ensures.taken c.in_ok-base.ensures.base) c.new-tally.ensures.left,
)

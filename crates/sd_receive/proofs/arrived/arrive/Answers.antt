use Rattle.std.proofs.Common.{[]}
use Rattle.sd_receive.proofs.StreamLemmas.{goes_on_more, ok_then}
use Rattle.sd_receive.proofs.arrived.arrive.Goals as goal

pub returns-clause-reads : goal.returns-clause-reads
returns-clause-reads g c =
    ok_then c.take_rest.result (goes_on_more g.R.Read.remaining c.args.reader.now c.fill.new.reader c.take_rest.new.reader [] [] c.in_ok-digester.ensures.reads) c.take_rest.ensures.reads

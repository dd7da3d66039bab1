use Rattle.sd_rounds.proofs.DumpLemmas.{dump_laws}
use Rattle.sd_rounds.proofs.laws.dump_law.Goals as goal

pub returns : goal.returns
returns c = dump_laws c.clear_law.ensures c.plain_law.ensures

use Rattle.sd_journal.proofs.TellLemmas.{run_laws}
use Rattle.sd_journal.proofs.laws.run_laws.Goals as goal

pub returns : goal.returns
returns c = run_laws

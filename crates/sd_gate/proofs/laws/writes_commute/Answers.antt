use Rattle.sd_gate.proofs.CommuteLemmas as lemmas
use Rattle.sd_gate.proofs.laws.writes_commute.Goals as goal

pub returns : goal.returns
returns c = lemmas.writes_commute

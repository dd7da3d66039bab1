use Rattle.sd_gate.proofs.LookLemmas as lemmas
use Rattle.sd_gate.proofs.laws.inspection_finds.Goals as goal

pub returns : goal.returns
returns c = lemmas.inspection_finds

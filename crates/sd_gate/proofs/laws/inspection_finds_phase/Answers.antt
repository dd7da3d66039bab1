use Rattle.sd_gate.proofs.LawLemmas as lemmas
use Rattle.sd_gate.proofs.laws.inspection_finds_phase.Goals as goal

pub returns : goal.returns
returns c = lemmas.inspection_finds_phase

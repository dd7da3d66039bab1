use Rattle.sd_gate.proofs.TakeLemmas as lemmas
use Rattle.sd_gate.proofs.laws.plans_take.Goals as goal

pub returns : goal.returns
returns c = lemmas.plans_take

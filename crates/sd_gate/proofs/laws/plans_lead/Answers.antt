use Rattle.sd_gate.proofs.LawLemmas as lemmas
use Rattle.sd_gate.proofs.laws.plans_lead.Goals as goal

pub returns : goal.returns
returns c = lemmas.plans_lead

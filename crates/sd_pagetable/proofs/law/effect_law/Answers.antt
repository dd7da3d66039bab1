use Rattle.sd_pagetable.proofs.EffectLemmas.{effect_law}
use Rattle.sd_pagetable.proofs.law.effect_law.Goals as goal

pub returns : goal.returns
returns c = effect_law

use Rattle.std.proofs.Common.{◌∙◌, subst, sym}
use Rattle.sd_history.specs.Restorable.{AreRestorable}
use Rattle.sd_history.proofs.history.history_of.Goals as goal

pub returns-clause-exact : goal.returns-clause-exact
returns-clause-exact c = λ contents catalog.
    subst (AreRestorable contents) (sym (c.in_ok-past.ensures ∙ c.deref-2.ensures.value)) (c.in_ok-numbers.ensures.exact contents catalog)

use Rattle.std.proofs.Common.{sym, ◌∙◌, subst}
use Rattle.sd_world.specs.Steps.{HandsInKept}
use Rattle.sd_world.proofs.KeptLemmas.{same_outcome}
use Rattle.sd_world.proofs.stepping.hand_in.Goals as goal

pub returns-in-Outcome : goal.returns-in-Outcome
returns-in-Outcome c = λ made is.
    subst (λ m. HandsInKept c.args.lane c.args.core.now c.args.kept.now m c.hand_in.result c.hand_in.new.self c.take.new.self)
    (same_outcome c.in-Outcome.outcome made (sym c.in-Outcome.ensures.taken ∙ is))
    (record { does = c.hand_in.ensures; left = c.in-Outcome.ensures.left })

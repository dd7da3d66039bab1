use Rattle.std.proofs.Common.{refl, sym, ◌∙◌}
use Rattle.std.proofs.lemmas.Bool.{false≢true}
use Rattle.sd_history.proofs.BackLemmas.{keeps_it, leaves_it}
use Rattle.sd_history.proofs.going_back.keep_restorable.Goals as goal

pub returns-in_ok-push-clause-exact : goal.returns-in_ok-push-clause-exact
returns-in_ok-push-clause-exact c = λ contents catalog.
    keeps_it contents c.args.number c.args.kept.now.items c.push.new.self.items ((c.in_ok-is_restorable.ensures.exact contents catalog).0 c.if-branch.true) c.in_ok-push.ensures.items

pub returns-else-branch-clause-exact : goal.returns-else-branch-clause-exact
returns-else-branch-clause-exact c = λ contents catalog.
    leaves_it contents c.args.number c.args.kept.now.items c.args.kept.now.items
    (λ goes. false≢true (sym c.if-branch.false ∙ (c.in_ok-is_restorable.ensures.exact contents catalog).1 goes)) refl

use Rattle.std.proofs.Common.{◌++◌, ◌∷◌, [], refl, sym, subst}
use Rattle.std.proofs.lemmas.Bool.{false≢true}
use Rattle.sd_chain.specs.Catalog.{IsNewestChoice}
use Rattle.sd_chain.proofs.ChoiceLemmas.{choice_kept, newest_first, newest_next, newest_kept, not_after}
use Rattle.sd_chain.proofs.choice.newest_with.Goals as goal

pub returns-then-not-is_restored : goal.returns-then-not-is_restored
returns-then-not-is_restored c = λ all was. choice_kept all c.args.one.now c.args.newest was (λ restored. false≢true (c.if-not-is_restored.ensures.1 restored))

pub returns-in_default : goal.returns-in_default
returns-in_default c = λ all was. newest_first all c.args.one.now (subst (IsNewestChoice all) c.in_default.is was) (c.if-not-is_restored.ensures.0 refl)

pub returns-then-is_not_after : goal.returns-then-is_not_after
returns-then-is_not_after c = λ all was.
    newest_next all c.args.one.now c.in-Some.best.now (subst (IsNewestChoice all) c.in-Some.is was) (c.if-not-is_restored.ensures.0 refl) (c.if-is_not_after.ensures.0 refl)

pub returns-else-is_not_after : goal.returns-else-is_not_after
returns-else-is_not_after c = λ all was.
    let best = subst (IsNewestChoice all) c.in-Some.is was in
    subst (IsNewestChoice (all ++ c.args.one.now ∷ [])) (sym c.in-Some.is)
    (newest_kept all c.args.one.now c.in-Some.best.now best (λ _. not_after c.in-Some.best.now c.args.one.now (λ less. false≢true (c.if-is_not_after.ensures.1 less))))
